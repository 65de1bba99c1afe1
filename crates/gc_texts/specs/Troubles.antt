-- Which field of a faulty line of a station's text, or of a text of commands, is at fault: this project's own.
use Rattle.gc_texts.specs.Common.{decimal, IsCall, IsNoProcedure, IsParameterCount, IsProcedure, IsRefusal, IsRawCall, IsRawRefusal, Call, ValueFault, Count, TooMany, SpellsDecimal, zero, is_place, is_tolerance, Decimal}
use Rattle.std.specs.Prelude.{◌≡◌, ◌≢◌, ℕ, ◌<◌, ◌⊎◌, Bool, true, false, List, ◌∷◌, ◌++◌, length, Some, None, codes}
use Rattle.gc_catalogue.specs.declared.fault.CallFault.TheVariants.{Unknown, Parameters}
use Rattle.gc_catalogue.specs.declared.raw.RawFault.{RawFault}
use Rattle.gc_catalogue.specs.declared.raw.RawFault.TheVariants.{InTable, TooLong}
use Rattle.gc_texts.specs.Procedures.{IsRpc, IsTarget}
use Rattle.gc_texts.specs.Cuts.{Cuts, Lacks, behind}
use Rattle.gc_texts.specs.Descriptions.{IsDescription, description_seen}
use Rattle.gc_texts.specs.Expectations.{items_trouble}
use Rattle.gc_texts.specs.Nears.{is_length}
use Rattle.gc_texts.specs.ProcedureNames.{name_in_table}
use Rattle.gc_texts.specs.TaskLines.{AreRequestAndItems, IsTaskLine}
use Rattle.gc_texts.specs.ValueItems.{AreValueFiles, value_items, values_in}
use Rattle.gc_texts.specs.Words.{first_word, second_word, third_word, after_two_words}
use Rattle.gc_texts.specs.declared.description.Description.{Description}
use Rattle.gc_texts.specs.declared.task_line.TaskLine.{TaskLine}
use Rattle.gc_texts.specs.declared.trouble.Trouble.{Trouble}
use Rattle.gc_texts.specs.declared.wording.Wording.TheVariants.{Described}
use Rattle.gc_texts.specs.declared.task_line.TaskLine.TheVariants as says
use Rattle.gc_texts.specs.declared.trouble.Trouble.TheVariants as trouble

-- what is reported of this fault in the parameters of a procedure that has `count` of them: `count`, where the line has another
-- number of them; else that their spelling is at fault
abbrev pub parameters_trouble : (rpc count : ℕ) → ValueFault → Trouble
parameters_trouble rpc count Count = trouble.Wants rpc count
parameters_trouble rpc count TooMany = trouble.Wants rpc count
parameters_trouble rpc count _ = trouble.Parameters

-- the procedure refuses these parameters with some fault, and `t` is what is reported of that fault
pub record IsParametersTrouble (rpc : ℕ) (params : List ℕ) (t : Trouble) : Type 0 where
  pub fault : ValueFault
  pub refused : IsRefusal rpc params (Parameters fault)
  pub count : ℕ
  pub counted : IsParameterCount rpc count
  pub is : t ≡ parameters_trouble rpc count fault

-- what is at fault in a procedure's number and its parameters: no procedure has the number, or the parameters have a fault.
-- Where number and parameters make a call, nothing is at fault, which is reported as `NoForm`
abbrev pub IsCallTrouble : ℕ → List ℕ → Trouble → Type 0
IsCallTrouble rpc params (trouble.NoProcedure n) = (n ≡ rpc) × IsRefusal rpc params Unknown
IsCallTrouble rpc params trouble.NoForm = (call : Call) × IsCall rpc params call
IsCallTrouble rpc params (trouble.Wants n count) = IsParametersTrouble rpc params (trouble.Wants n count)
IsCallTrouble rpc params trouble.Parameters = IsParametersTrouble rpc params trouble.Parameters
IsCallTrouble rpc params _ = ⊥

-- what is reported of a procedure's number and its parameters after the word `raw`, if they are refused for this reason: that
-- the number is in the table, that the line would be too long, or that the parameters are at fault
abbrev pub raw_trouble : ℕ → RawFault → Trouble
raw_trouble rpc InTable = trouble.RawInTable rpc
raw_trouble rpc TooLong = trouble.RawTooLong
raw_trouble rpc _ = trouble.RawParameters

-- a procedure's number and its parameters are refused after the word `raw`, and `t` is what is reported of the reason; or
-- they make a request, and nothing is at fault in them (`NoForm`)
abbrev pub IsRawTrouble : ℕ → List ℕ → Trouble → Type 0
IsRawTrouble rpc params t =
    ((fault : RawFault) × IsRawRefusal rpc params fault × (t ≡ raw_trouble rpc fault)) ⊎ (IsRawCall rpc params × (t ≡ trouble.NoForm))

-- the text is the number of some target
abbrev pub HasTarget : List ℕ → Type 0
HasTarget text = (target : ℕ) × IsTarget text target

-- the text is no number of a target
abbrev pub NoTarget : List ℕ → Type 0
NoTarget text = (n : ℕ) → IsTarget text n → ⊥

-- the text is no number of a procedure
abbrev pub NoRpc : List ℕ → Type 0
NoRpc text = (rpc : ℕ) → IsRpc text rpc → ⊥

-- the word after `raw` is no procedure's number, and `t` is `Number`; or it is one, and `t` is what is at fault in it and the
-- parameters after it
abbrev pub IsRawWordsTrouble : (word params : List ℕ) → Trouble → Type 0
IsRawWordsTrouble word params t = ((t ≡ trouble.Number) × NoRpc word) ⊎ ((rpc : ℕ) × IsRpc word rpc × IsRawTrouble rpc params t)

-- no item of the parameters stands for a value of a file
abbrev pub HasNoValue : List ℕ → Type 0
HasNoValue params = values_in params ≡ 0

-- some items of the parameters stand for values of files, and one of them hasn't their form; or each has, and it is reported that the command
-- may not be where it is
abbrev pub IsValueTrouble : ℕ → List ℕ → Trouble → Type 0
IsValueTrouble rpc params trouble.ValueForm = (0 < values_in params) × (AreValueFiles (value_items params) → ⊥)
IsValueTrouble rpc params (trouble.Value n) = (n ≡ rpc) × (0 < values_in params) × AreValueFiles (value_items params)
IsValueTrouble rpc params _ = ⊥

-- what is at fault in a procedure's number and its parameters, which may take values of files
abbrev pub IsProcedureTrouble : ℕ → List ℕ → Trouble → Type 0
IsProcedureTrouble rpc params t = IsValueTrouble rpc params t ⊎ (HasNoValue params × IsCallTrouble rpc params t)

-- the first word of a request is a procedure's number, and that number and the parameters after it have this trouble
pub record IsTableTrouble (request : List ℕ) (t : Trouble) : Type 0 where
  pub rpc : ℕ
  pub number : IsRpc (first_word request) rpc
  pub is : IsProcedureTrouble rpc (behind 32 request) t

-- the first word of a request is `raw`
abbrev pub IsRaw : List ℕ → Type 0
IsRaw request = first_word request ≡ codes "raw"

-- the second word of a request is a procedure's number after the word `raw`, and that number and the parameters after it have
-- this trouble
pub record IsRawRequestTrouble (request : List ℕ) (t : Trouble) : Type 0 where
  pub word : IsRaw request
  pub rpc : ℕ
  pub number : IsRpc (second_word request) rpc
  pub is : IsRawTrouble rpc (after_two_words request) t

-- the first word of a line is none of `deadline`, `name`, `near`, `unwatched`, `accept`, `busy`, `retry`, `agree`, `at`, `each`, `every`
-- and `procedure`
pub record BeginsNoSetting (line : List ℕ) : Type 0 where
  pub no_deadline : first_word line ≢ codes "deadline"
  pub no_name : first_word line ≢ codes "name"
  pub no_near : first_word line ≢ codes "near"
  pub no_unwatched : first_word line ≢ codes "unwatched"
  pub no_accept : first_word line ≢ codes "accept"
  pub no_busy : first_word line ≢ codes "busy"
  pub no_retry : first_word line ≢ codes "retry"
  pub no_agree : first_word line ≢ codes "agree"
  pub no_at : first_word line ≢ codes "at"
  pub no_each : first_word line ≢ codes "each"
  pub no_every : first_word line ≢ codes "every"
  pub no_procedure : first_word line ≢ codes "procedure"

-- a line is taken for a command: its first word is none of these, and its second isn't `expect`
pub record BeginsAsCommand (line : List ℕ) : Type 0 where
  pub no_setting : BeginsNoSetting line
  pub no_expect : second_word line ≢ codes "expect"

-- a text is no decimal, or one that doesn't fit
pub record IsUnfit (fits : Decimal → Bool) (text : List ℕ) : Type 0 where
  pub is : ((d : Decimal) → SpellsDecimal text d → ⊥) ⊎ ((d : Decimal) × SpellsDecimal text d × (fits d ≡ false))

-- whether a decimal is a horizontal angle of a place, from 0 to a turn: with 0.0 as the vertical angle it is a place
abbrev pub fits_hz : Decimal → Bool
fits_hz hz = is_place (record { hz = hz; v = zero })

-- whether a decimal is a vertical angle of a place, from 0 to half a turn: with 0.0 as the horizontal angle it is a place
abbrev pub fits_v : Decimal → Bool
fits_v v = is_place (record { hz = zero; v = v })

-- a text is a decimal that fits
pub record IsFit (fits : Decimal → Bool) (text : List ℕ) : Type 0 where
  pub number : Decimal
  pub spelled : SpellsDecimal text number
  pub is : fits number ≡ true

-- this one of the two numbers of these words, a distance and its tolerance, is at fault; `Near`: none is
abbrev pub IsRangeTrouble : List ℕ → Trouble → Type 0
IsRangeTrouble words trouble.NearDistance = IsUnfit is_length (first_word words)
IsRangeTrouble words trouble.NearDistanceTolerance = IsUnfit is_length (behind 32 words)
IsRangeTrouble words trouble.Near = IsFit is_length (first_word words) × IsFit is_length (behind 32 words)
IsRangeTrouble words _ = ⊥

-- a text has a space, and of what follows the first one `Is` is true
pub record IsFollowedBy (Is : List ℕ → Type 0) (text : List ℕ) : Type 0 where
  pub first : List ℕ
  pub words : List ℕ
  pub cut : Cuts 32 text first (Some words)
  pub is : Is words

-- in a text that begins with the tolerance of a line's angles, what follows it has this trouble; `Near`: none, or nothing follows
abbrev pub IsRestTrouble : List ℕ → Trouble → Type 0
IsRestTrouble text t = ((t ≡ trouble.Near) × Lacks 32 text) ⊎ IsFollowedBy (λ words. IsRangeTrouble words t) text

-- this one of the three or five numbers that follow `near T` in a line is at fault; `Near`: none is
abbrev pub IsNearTrouble : List ℕ → Trouble → Type 0
IsNearTrouble numbers trouble.NearHz = IsUnfit fits_hz (first_word numbers)
IsNearTrouble numbers trouble.NearV = IsUnfit fits_v (second_word numbers)
IsNearTrouble numbers trouble.NearTolerance = IsUnfit is_tolerance (third_word numbers)
IsNearTrouble numbers trouble.NearDistance = IsRestTrouble (after_two_words numbers) trouble.NearDistance
IsNearTrouble numbers trouble.NearDistanceTolerance = IsRestTrouble (after_two_words numbers) trouble.NearDistanceTolerance
IsNearTrouble numbers trouble.Near =
    IsFit fits_hz (first_word numbers) × IsFit fits_v (second_word numbers) × IsFit is_tolerance (third_word numbers)
    × IsRestTrouble (after_two_words numbers) trouble.Near
IsNearTrouble numbers _ = ⊥

-- a line `near` whose target is one, with this trouble in the numbers after it
abbrev pub IsNearLineTrouble : List ℕ → Trouble → Type 0
IsNearLineTrouble line t = (first_word line ≡ codes "near") × HasTarget (second_word line) × IsNearTrouble (after_two_words line) t

-- a text is no three words: less than three, or more
abbrev pub IsNoThreeWords : List ℕ → Type 0
IsNoThreeWords text = (length (after_two_words text) ≡ 0) ⊎ (0 < length (behind 32 (after_two_words text)))

-- this is at fault in the numbers that follow `agree` in a line: one of the three; or, as `Agree`, that they aren't three words, or nothing
abbrev pub IsAgreeTrouble : List ℕ → Trouble → Type 0
IsAgreeTrouble numbers trouble.AgreeHz = IsUnfit is_tolerance (first_word numbers)
IsAgreeTrouble numbers trouble.AgreeV = IsUnfit is_tolerance (second_word numbers)
IsAgreeTrouble numbers trouble.AgreeDistance = IsUnfit is_length (after_two_words numbers)
IsAgreeTrouble numbers trouble.Agree =
    IsNoThreeWords numbers ⊎ (IsFit is_tolerance (first_word numbers) × IsFit is_tolerance (second_word numbers) × IsFit is_length (after_two_words numbers))
IsAgreeTrouble numbers _ = ⊥

-- a line `agree` with this trouble in what follows the word
abbrev pub IsAgreeLineTrouble : List ℕ → Trouble → Type 0
IsAgreeLineTrouble line t = (first_word line ≡ codes "agree") × IsAgreeTrouble (behind 32 line) t

-- a text begins with the number of a procedure that isn't in the table
abbrev pub BeginsOutside : List ℕ → Type 0
BeginsOutside text = (rpc : ℕ) × IsRpc (first_word text) rpc × IsNoProcedure rpc

-- what follows the word `procedure` in a line, and begins with a number that isn't in the table, is at fault so: it describes no procedure;
-- or it does, and as `Procedure` it is reported that the line can't be where it is
abbrev pub IsOutsideTrouble : List ℕ → Trouble → Type 0
IsOutsideTrouble text trouble.ProcedureForm = BeginsOutside text × ((d : Description) → IsDescription text (description_seen d) → ⊥)
IsOutsideTrouble text trouble.Procedure = (d : Description) × IsDescription text (description_seen d)
IsOutsideTrouble text _ = ⊥

-- what follows the word `procedure` in a line is at fault so: it doesn't begin with a procedure's number, or with one of the table; or with
-- another (`IsOutsideTrouble`)
abbrev pub IsDescriptionTrouble : List ℕ → Trouble → Type 0
IsDescriptionTrouble text trouble.ProcedureNumber = NoRpc (first_word text)
IsDescriptionTrouble text (trouble.ProcedureInTable rpc) = IsRpc (first_word text) rpc × IsProcedure rpc
IsDescriptionTrouble text t = IsOutsideTrouble text t

-- a line `procedure` with this trouble in what follows the word
abbrev pub IsDescribingTrouble : List ℕ → Trouble → Type 0
IsDescribingTrouble line t = (first_word line ≡ codes "procedure") × IsDescriptionTrouble (behind 32 line) t

-- neither a procedure's number nor the parameters are at fault in a request: they make a call, or may be asked for after the word `raw`
abbrev pub HasNoCallAtFault : List ℕ → Type 0
HasNoCallAtFault request = IsTableTrouble request trouble.NoForm ⊎ IsRawRequestTrouble request trouble.NoForm

-- a request has this trouble
abbrev pub IsRequestTrouble : List ℕ → Trouble → Type 0
IsRequestTrouble request trouble.Number = (IsRaw request × NoRpc (second_word request)) ⊎ ((IsRaw request → ⊥) × NoRpc (first_word request))
IsRequestTrouble request trouble.NoForm = HasNoCallAtFault request
IsRequestTrouble request (trouble.RawInTable rpc) = IsRawRequestTrouble request (trouble.RawInTable rpc)
IsRequestTrouble request trouble.RawParameters = IsRawRequestTrouble request trouble.RawParameters
IsRequestTrouble request trouble.RawTooLong = IsRawRequestTrouble request trouble.RawTooLong
IsRequestTrouble request t = IsTableTrouble request t

-- a line that is taken for a command has this trouble; more than one may fit a line
abbrev pub IsAskingTrouble : List ℕ → Trouble → Type 0
IsAskingTrouble line trouble.Now = (second_word line ≡ codes "5007") × (third_word line ≡ codes "now")
IsAskingTrouble line trouble.Target = NoTarget (first_word line)
IsAskingTrouble line trouble.NoForm = (length (behind 32 line) ≡ 0) ⊎ HasNoCallAtFault (behind 32 line)
IsAskingTrouble line t = IsRequestTrouble (behind 32 line) t

-- of the request and the items of a line `expect` the request has this trouble; or it has none, and the items have it; or they have none,
-- either, which is reported as `Expect`
abbrev pub IsPartsTrouble : (request items : List ℕ) → Trouble → Type 0
IsPartsTrouble request items t =
    ((t ≢ trouble.NoForm) × IsRequestTrouble request t)
    ⊎ (HasNoCallAtFault request × ((items_trouble items ≡ Some t) ⊎ ((items_trouble items ≡ None) × (t ≡ trouble.Expect))))

-- what follows the word `expect` in a line is a request and items, and these have this trouble
pub record HasPartsTrouble (text : List ℕ) (t : Trouble) : Type 0 where
  pub request : List ℕ
  pub items : List ℕ
  pub parts : AreRequestAndItems text request items
  pub is : IsPartsTrouble request items t

-- what follows the word `expect` in a line is no request and items
abbrev pub NoRequestAndItems : List ℕ → Type 0
NoRequestAndItems text = (request items : List ℕ) → AreRequestAndItems text request items → ⊥

-- a line whose second word is `expect` is at fault in its target; or it has one, and is at fault in its form, its request or its items
abbrev pub IsExpectTrouble : List ℕ → Trouble → Type 0
IsExpectTrouble line t =
    ((t ≡ trouble.Target) × NoTarget (first_word line))
    ⊎ (HasTarget (first_word line)
    × (((t ≡ trouble.ExpectForm) × NoRequestAndItems (after_two_words line)) ⊎ HasPartsTrouble (after_two_words line) t))

-- the second word of a line is `expect`, and the line has this trouble
pub record IsExpectLineTrouble (line : List ℕ) (t : Trouble) : Type 0 where
  pub word : second_word line ≡ codes "expect"
  pub is : IsExpectTrouble line t

-- a line whose first word is `deadline`, `name`, `near`, `unwatched`, `accept`, `busy`, `retry`, `agree`, `at`, `each`, `every` or
-- `procedure` is at fault in its target, or in what it sets
abbrev pub IsWordTrouble : List ℕ → Trouble → Type 0
IsWordTrouble line trouble.Deadline = first_word line ≡ codes "deadline"
IsWordTrouble line trouble.Name = (first_word line ≡ codes "name") × HasTarget (second_word line)
IsWordTrouble line trouble.NearHz = IsNearLineTrouble line trouble.NearHz
IsWordTrouble line trouble.NearV = IsNearLineTrouble line trouble.NearV
IsWordTrouble line trouble.NearTolerance = IsNearLineTrouble line trouble.NearTolerance
IsWordTrouble line trouble.NearDistance = IsNearLineTrouble line trouble.NearDistance
IsWordTrouble line trouble.NearDistanceTolerance = IsNearLineTrouble line trouble.NearDistanceTolerance
IsWordTrouble line trouble.Near = IsNearLineTrouble line trouble.Near
IsWordTrouble line trouble.Unwatched = (first_word line ≡ codes "unwatched") × HasTarget (behind 32 line)
IsWordTrouble line trouble.Accept = first_word line ≡ codes "accept"
IsWordTrouble line trouble.Busy = first_word line ≡ codes "busy"
IsWordTrouble line trouble.Retry = first_word line ≡ codes "retry"
IsWordTrouble line trouble.AgreeHz = IsAgreeLineTrouble line trouble.AgreeHz
IsWordTrouble line trouble.AgreeV = IsAgreeLineTrouble line trouble.AgreeV
IsWordTrouble line trouble.AgreeDistance = IsAgreeLineTrouble line trouble.AgreeDistance
IsWordTrouble line trouble.Agree = IsAgreeLineTrouble line trouble.Agree
IsWordTrouble line trouble.AtStart = first_word line ≡ codes "at"
IsWordTrouble line trouble.EachCycle = first_word line ≡ codes "each"
IsWordTrouble line trouble.Every = first_word line ≡ codes "every"
IsWordTrouble line trouble.ProcedureNumber = IsDescribingTrouble line trouble.ProcedureNumber
IsWordTrouble line (trouble.ProcedureInTable rpc) = IsDescribingTrouble line (trouble.ProcedureInTable rpc)
IsWordTrouble line trouble.ProcedureForm = IsDescribingTrouble line trouble.ProcedureForm
IsWordTrouble line trouble.Procedure = IsDescribingTrouble line trouble.Procedure
IsWordTrouble line trouble.Target =
    ((first_word line ≡ codes "name") × NoTarget (second_word line))
    ⊎ (((first_word line ≡ codes "near") × NoTarget (second_word line)) ⊎ ((first_word line ≡ codes "unwatched") × NoTarget (behind 32 line)))
IsWordTrouble line t = ⊥

-- a line that sets something has this trouble, or one that doesn't, and whose second word is `expect`
abbrev pub IsSettingTrouble : List ℕ → Trouble → Type 0
IsSettingTrouble line t = IsWordTrouble line t ⊎ (BeginsNoSetting line × IsExpectLineTrouble line t)

-- a line begins with the byte order mark of UTF-8, EF BB BF, or with one of UTF-16, FF FE or FE FF
abbrev pub IsMarkTrouble : List ℕ → Trouble → Type 0
IsMarkTrouble line trouble.ByteOrderMark = (rest : List ℕ) × (line ≡ 239 ∷ 187 ∷ 191 ∷ rest)
IsMarkTrouble line trouble.Utf16 = ((rest : List ℕ) × (line ≡ 255 ∷ 254 ∷ rest)) ⊎ ((rest : List ℕ) × (line ≡ 254 ∷ 255 ∷ rest))
IsMarkTrouble line t = ⊥

-- a line begins with no byte order mark
pub record HasNoMark (line : List ℕ) : Type 0 where
  pub no_utf8 : (rest : List ℕ) → line ≡ 239 ∷ 187 ∷ 191 ∷ rest → ⊥
  pub no_little : (rest : List ℕ) → line ≡ 255 ∷ 254 ∷ rest → ⊥
  pub no_big : (rest : List ℕ) → line ≡ 254 ∷ 255 ∷ rest → ⊥

-- in a line without a byte order mark this is at fault: by its first word the line sets something, or is taken for a command
abbrev pub IsLineTrouble : List ℕ → Trouble → Type 0
IsLineTrouble line t = IsSettingTrouble line t ⊎ (BeginsAsCommand line × IsAskingTrouble line t)

-- what is reported of a line of a station's text with this trouble: of a procedure that isn't in the table, that no line describes it,
-- either
abbrev pub for_station : Trouble → Trouble
for_station (trouble.NoProcedure rpc) = trouble.Undescribed rpc
for_station t = t

-- in a line of a station's text, without a byte order mark, something is at fault, and this is reported of it
abbrev pub IsUnmarkedTrouble : List ℕ → Trouble → Type 0
IsUnmarkedTrouble line t = (found : Trouble) × IsLineTrouble line found × (t ≡ for_station found)

-- in a line that is known to be faulty in a station's text, this is at fault: it begins with a byte order mark, or it doesn't
abbrev pub IsTrouble : List ℕ → Trouble → Type 0
IsTrouble line t = IsMarkTrouble line t ⊎ (HasNoMark line × IsUnmarkedTrouble line t)

-- whether a line asks for a procedure outside the table by its number alone
abbrev pub asks_outside : TaskLine → Bool
asks_outside (says.Command wish Described expects) = true
asks_outside _ = false

-- a line is one of a station's text, and doesn't ask for a procedure outside the table by its number alone
abbrev pub IsStationLine : List ℕ → Type 0
IsStationLine line = (said : TaskLine) × IsTaskLine line said × (asks_outside said ≡ false)

-- a line is none of a station's text, but for one that asks for a procedure outside the table by its number alone
abbrev pub IsNoStationLine : List ℕ → Type 0
IsNoStationLine line = (said : TaskLine) → IsTaskLine line said → asks_outside said ≡ true

-- a line begins as one that sets something in a station's text, or is one of such a text, and doesn't ask for a procedure outside the table
-- by its number alone
abbrev pub IsForStation : List ℕ → Type 0
IsForStation line = ((t : Trouble) × IsSettingTrouble line t) ⊎ IsStationLine line

-- a line doesn't begin as one that sets something in a station's text, and is none of such a text, unless it asks for a procedure outside
-- the table by its number alone
abbrev pub IsNotForStation : List ℕ → Type 0
IsNotForStation line = BeginsAsCommand line × IsNoStationLine line

-- what is reported of a line of a text of commands, if this is the trouble of a command
abbrev pub for_command : Trouble → Trouble
for_command trouble.NoForm = trouble.CommandForm
for_command t = t

-- in a line of a text of commands, without a byte order mark, this is at fault: it is for a station's text; or it isn't, and this
-- is reported of its trouble as a command
abbrev pub IsUnmarkedCommandTrouble : List ℕ → Trouble → Type 0
IsUnmarkedCommandTrouble line t =
    ((t ≡ trouble.ForStation) × IsForStation line)
    ⊎ (IsNotForStation line × ((asked : Trouble) × IsAskingTrouble line asked × (t ≡ for_command asked)))

-- in a line that is known to be faulty in a text of commands, this is at fault: it begins with a byte order mark, or it doesn't
abbrev pub IsFaultOfCommand : List ℕ → Trouble → Type 0
IsFaultOfCommand line t = IsMarkTrouble line t ⊎ (HasNoMark line × IsUnmarkedCommandTrouble line t)

-- the text that the procedure with this number and name is in the table, so the word `raw` is to be left out
abbrev pub in_table_text : ℕ → List ℕ → List ℕ
in_table_text rpc name = decimal rpc ++ codes " is " ++ name ++ codes ": leave out raw"

-- the text that the procedure with this number and name is in the table, and so needs no description
abbrev pub described_in_table_text : ℕ → List ℕ → List ℕ
described_in_table_text rpc name = codes "procedure: " ++ decimal rpc ++ codes " is " ++ name ++ codes ", and needs no description"

-- the text that the table hasn't the procedure with this number, nor a line a description of it
abbrev pub undescribed_text : ℕ → List ℕ
undescribed_text rpc = codes "no procedure " ++ decimal rpc ++ codes " in the table, nor with such parameters in a line procedure before this one"

-- the text that the item with this number is none
abbrev pub item_text : ℕ → List ℕ
item_text place =
    codes "expect: item " ++ decimal place
    ++ codes " is no *, no >, no LOW..HIGH of two decimals with LOW up to HIGH, and no value: printable ASCII without a space at an end"

-- the text which commands may take values of files, for one of the procedure with this number
abbrev pub value_text : ℕ → List ℕ
value_text rpc =
    codes "value: " ++ decimal rpc
    ++ codes " may take values of files in a cycle alone, each in the place of a Double of a line procedure before this one, 16 in a text and 512 "
    ++ codes "bytes in a request"

-- the text of a trouble, as it is printed after the line's number
abbrev pub trouble_text : Trouble → List ℕ
trouble_text (trouble.NoProcedure rpc) = codes "no procedure " ++ decimal rpc
trouble_text (trouble.Wants rpc count) = decimal rpc ++ codes " wants " ++ decimal count ++ codes " parameters"
trouble_text trouble.Parameters = codes "spelling of the parameters"
trouble_text trouble.Number = codes "procedure"
trouble_text trouble.Target = codes "target"
trouble_text trouble.Deadline = codes "deadline"
trouble_text trouble.Name = codes "name"
trouble_text trouble.NearHz = codes "near: HZ is no decimal from 0 to a turn, in radians"
trouble_text trouble.NearV = codes "near: V is no decimal from 0 to half a turn, in radians"
trouble_text trouble.NearTolerance = codes "near: TOLERANCE is no decimal from 0 to half a turn, in radians"
trouble_text trouble.NearDistance = codes "near: DISTANCE is no decimal from 0 to 100000, in metres"
trouble_text trouble.NearDistanceTolerance = codes "near: the TOLERANCE after DISTANCE is no decimal from 0 to 100000, in metres"
trouble_text trouble.Near = codes "near: a second place of the target, or a 65th"
trouble_text trouble.Unwatched = codes "unwatched: the target is unwatched already, or is a 65th"
trouble_text trouble.Accept = codes "accept"
trouble_text trouble.Busy = codes "busy"
trouble_text trouble.Retry = codes "retry"
trouble_text trouble.AgreeHz = codes "agree: HZ is no decimal from 0 to half a turn, in radians"
trouble_text trouble.AgreeV = codes "agree: V is no decimal from 0 to half a turn, in radians"
trouble_text trouble.AgreeDistance = codes "agree: D is no decimal from 0 to 100000, in metres"
trouble_text trouble.Agree = codes "agree: the form is agree HZ V D, or agree alone"
trouble_text trouble.AtStart = codes "at start"
trouble_text trouble.EachCycle = codes "each cycle"
trouble_text trouble.Every = codes "every: the form is every N cycles, with N from 1 to 65535"
trouble_text trouble.ExpectForm = codes "expect: the form is T expect REQUEST = ITEMS, with one space on both sides of ="
trouble_text trouble.ExpectLong = codes "expect: ITEMS has more than 128 bytes"
trouble_text trouble.ExpectMany = codes "expect: more than 16 items"
trouble_text trouble.ExpectTwo = codes "expect: more than one item is >"
trouble_text (trouble.ExpectItem place) = item_text place
trouble_text trouble.Expect = codes "expect: a 17th line with an item >"
trouble_text trouble.ValueForm =
    codes "value: the form is {FILE SECONDS}, with a path of 1 to 128 bytes without spaces, commas, quotes and braces, and 1 to 86400 seconds"
trouble_text (trouble.Value rpc) = value_text rpc
trouble_text trouble.Now = codes "5007 now"
trouble_text trouble.ProcedureNumber = codes "procedure: RPC is no number from 0 to 65535"
trouble_text (trouble.ProcedureInTable rpc) = described_in_table_text rpc (name_in_table rpc)
trouble_text trouble.ProcedureForm =
    codes "procedure: the form is RPC NAME KIND .. -> COLUMN KIND .. [..] with kinds Double, Long, Short, Byte, Boolean and String; a COLUMN is there "
    ++ codes "once, isn't one of each row, and has a quantity's kind if it has its name"
trouble_text trouble.Procedure = codes "procedure: a second description of it, a 17th, a 65th new column, or one of another kind than before"
trouble_text (trouble.Undescribed rpc) = undescribed_text rpc
trouble_text (trouble.RawInTable rpc) = in_table_text rpc (name_in_table rpc)
trouble_text trouble.RawParameters = codes "more than 16 parameters, a double quote without its end, or a carriage return"
trouble_text trouble.RawTooLong = codes "the request has more than 512 bytes"
trouble_text trouble.NoForm = codes "no form"
trouble_text trouble.CommandForm = codes "the form is T RPC or T RPC PARAMS"
trouble_text trouble.ForStation = codes "of a text for geocom station"
trouble_text trouble.ByteOrderMark = codes "begins with a byte order mark: save the text without it"
trouble_text trouble.Utf16 = codes "is UTF-16: save the text as UTF-8"

-- the line that the program writes of the trouble of a text's line with this number, counted from 1
abbrev pub trouble_line : ℕ → Trouble → List ℕ
trouble_line line t = (codes "geocom: line " ++ decimal line ++ codes ": ") ++ (trouble_text t ++ codes "\n")
