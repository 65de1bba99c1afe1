-- What is at fault in a faulty line of a scene: this project's own.
use Rattle.gc_filters.specs.Common.{decimal, NamesWhole, FitsLong, SpellsDecimal, Delay, Scripted, IsRawRefusal, behind, IsNumber, IsRpc, second_word, third_word, fourth_word, after_two_words, after_three_words, after_four_words}
use Rattle.std.specs.Prelude.{◌≡◌, ◌⊎◌, ℕ, ℤ, List, ◌++◌, MatchResult, Result, codes}
use Rattle.gc_values.specs.declared.decimal.Decimal.{Decimal}
use Rattle.gc_catalogue.specs.declared.raw.RawFault.{RawFault}
use Rattle.gc_catalogue.specs.declared.raw.RawFault.TheVariants.{InTable}
use Rattle.gc_filters.specs.SceneLines.{Begins, IsLateReplyLine, SaysRestart, Scripts, code_max, delay_max, params_in_answer, rc_in_answer, scene_target_max}
use Rattle.gc_filters.specs.declared.scene_trouble.SceneTrouble.{SceneTrouble}
use Rattle.gc_filters.specs.declared.scene_trouble.SceneWord.{SceneWord}
use Rattle.gc_values.specs.Text as text
use Rattle.gc_filters.specs.declared.scene_trouble.SceneTrouble.TheVariants as trouble
use Rattle.gc_filters.specs.declared.scene_trouble.SceneWord.TheVariants as word

-- a word that a line of a scene begins with, as it is written
abbrev pub word_text : SceneWord → List ℕ
word_text word.Serial = codes "serial"
word_text word.Name = codes "name"
word_text word.Target = codes "target"
word_text word.Fault = codes "fault"
word_text word.Answer = codes "answer"
word_text word.Blocked = codes "blocked"
word_text word.Drift = codes "drift"
word_text word.Noise = codes "noise"
word_text word.Repeats = codes "repeats"
word_text word.Behave = codes "behave"
word_text word.Delay = codes "delay"
word_text word.Busy = codes "busy"

-- how a line with this word is written
abbrev pub form_text : SceneWord → List ℕ
form_text word.Serial = codes "serial N"
form_text word.Name = codes "name TEXT"
form_text word.Target = codes "target HZ V DISTANCE"
form_text word.Fault = codes "fault RPC RC [after COUNT] [for COUNT] or fault RPC restart [after COUNT] [for COUNT]"
form_text word.Answer = codes "answer RPC RC[,PARAMS]"
form_text word.Blocked = codes "blocked TARGET FROM TO"
form_text word.Drift = codes "drift TARGET HZ V D"
form_text word.Noise = codes "noise HZ V D SEED"
form_text word.Repeats = codes "repeats no"
form_text word.Behave = codes "behave faces, aims, takes, values, clock or real, or behave busy-then-late RPC MS"
form_text word.Delay = codes "delay RPC MS"
form_text word.Busy = codes "busy queue or busy drop"

-- the line begins with this word
abbrev pub BeginsWith : SceneWord → List ℕ → Type 0
BeginsWith w line = Begins (word_text w) line

-- the line gives the instrument a clock that runs
abbrev pub GivesClock : List ℕ → Type 0
GivesClock line = (line ≡ codes "behave clock") ⊎ (line ≡ codes "behave real")

-- the line says that replies to a procedure come late
abbrev pub SaysLateReply : List ℕ → Type 0
SaysLateReply line = (d : Delay) × IsLateReplyLine line d

-- the line needs a clock, which `serve` alone has: it gives the instrument one, or it begins with `delay` or `busy`
abbrev pub NeedsClock : List ℕ → Type 0
NeedsClock line = GivesClock line ⊎ (BeginsWith word.Delay line ⊎ BeginsWith word.Busy line)

-- the text is no number up to this maximum; opaque to proofs that don't unfold it
unfoldable pub NoNumber : (text : List ℕ) → (max : ℕ) → Type 0
NoNumber text max = (n : ℕ) → IsNumber text n max → ⊥

-- the text is no decimal as a scene writes angles and distances (`SpellsDecimal`); opaque to proofs that don't unfold it
unfoldable pub NoDecimal : List ℕ → Type 0
NoDecimal text = (d : Decimal) → SpellsDecimal text d → ⊥

-- what may be at fault in a reply to the procedure with this number, with these parameters. `InTable`: the procedure is in the
-- table. `Params`: a request for it with these parameters is refused for some reason (`IsRawRefusal`; `InTable` is one, too), and
-- so is the reply. `Form` names the word `answer`, and says nothing of the parameters
abbrev pub IsReplyTrouble : (rpc : ℕ) → (params : List ℕ) → SceneTrouble → Type 0
IsReplyTrouble rpc params (trouble.InTable n) = (n ≡ rpc) × IsRawRefusal rpc params InTable
IsReplyTrouble rpc params trouble.Params = (fault : RawFault) × IsRawRefusal rpc params fault
IsReplyTrouble rpc params (trouble.Form w) = w ≡ word.Answer
IsReplyTrouble rpc params _ = ⊥

-- the line begins with `answer` and a procedure's number, and this may be at fault in the reply (`IsReplyTrouble`)
abbrev pub IsAnswerTrouble : List ℕ → SceneTrouble → Type 0
IsAnswerTrouble line t =
    BeginsWith word.Answer line
    × ((rpc : ℕ) × IsRpc (second_word line) rpc × IsReplyTrouble rpc (params_in_answer line) t)

-- in a line that is known to be faulty, this may be at fault; more than one trouble may fit a line. `Form` says only
-- that the line begins with that word
abbrev pub IsSceneTrouble : List ℕ → SceneTrouble → Type 0
IsSceneTrouble line trouble.NoWord = (w : SceneWord) → BeginsWith w line → ⊥
IsSceneTrouble line trouble.Clock = NeedsClock line
IsSceneTrouble line trouble.Restart = BeginsWith word.Fault line × SaysRestart line
IsSceneTrouble line trouble.Late = SaysLateReply line
IsSceneTrouble line (trouble.Form w) = BeginsWith w line
IsSceneTrouble line trouble.Serial = BeginsWith word.Serial line × ((n : ℤ) → NamesWhole (behind 32 line) n → FitsLong n → ⊥)
IsSceneTrouble line trouble.Name = BeginsWith word.Name line × (text.IsText (behind 32 line) → ⊥)
IsSceneTrouble line trouble.Rpc = (BeginsWith word.Fault line ⊎ (BeginsWith word.Answer line ⊎ BeginsWith word.Delay line)) × NoNumber (second_word line) code_max
IsSceneTrouble line trouble.Rc = (BeginsWith word.Fault line × NoNumber (third_word line) code_max)
    ⊎ (BeginsWith word.Answer line × NoNumber (rc_in_answer line) code_max)
IsSceneTrouble line trouble.Target = (BeginsWith word.Blocked line ⊎ BeginsWith word.Drift line) × NoNumber (second_word line) scene_target_max
IsSceneTrouble line trouble.From = BeginsWith word.Blocked line × NoNumber (third_word line) 4294967295
IsSceneTrouble line trouble.To = BeginsWith word.Blocked line × NoNumber (after_three_words line) 4294967295
IsSceneTrouble line trouble.Hz = ((BeginsWith word.Target line ⊎ BeginsWith word.Noise line) × NoDecimal (second_word line))
    ⊎ (BeginsWith word.Drift line × NoDecimal (third_word line))
IsSceneTrouble line trouble.V = ((BeginsWith word.Target line ⊎ BeginsWith word.Noise line) × NoDecimal (third_word line))
    ⊎ (BeginsWith word.Drift line × NoDecimal (fourth_word line))
IsSceneTrouble line trouble.Distance = (BeginsWith word.Target line × NoDecimal (after_three_words line))
    ⊎ ((BeginsWith word.Noise line × NoDecimal (fourth_word line)) ⊎ (BeginsWith word.Drift line × NoDecimal (after_four_words line)))
IsSceneTrouble line trouble.Seed = BeginsWith word.Noise line × NoNumber (after_four_words line) 4294967295
IsSceneTrouble line trouble.Ms = BeginsWith word.Delay line × NoNumber (after_two_words line) delay_max
IsSceneTrouble line (trouble.InTable n) = IsAnswerTrouble line (trouble.InTable n)
IsSceneTrouble line trouble.Params = IsAnswerTrouble line trouble.Params

-- a line was read as a value of which `Says` is true; or `Says` is true of none, and this is at fault in the line
abbrev pub IsLineRead : {Value : Type 0} → (Says : Value → Type 0) → (line : List ℕ) → Result Value SceneTrouble → Type 0
IsLineRead {Value} Says line read = MatchResult read Says (λ t. ((v : Value) → Says v → ⊥) × IsSceneTrouble line t)

-- this reply was made of a procedure, a return code and parameters; or none can be, and this is at fault in them
abbrev pub IsScriptRead : (rpc rc : ℕ) → (params : List ℕ) → Result Scripted SceneTrouble → Type 0
IsScriptRead rpc rc params read = MatchResult read (Scripts rpc rc params) (λ t. ((a : Scripted) → Scripts rpc rc params a → ⊥) × IsReplyTrouble rpc params t)

-- a trouble as it is printed
abbrev pub scene_trouble_text : SceneTrouble → List ℕ
scene_trouble_text trouble.NoWord = codes "no line of a scene begins so"
scene_trouble_text trouble.Clock = codes "serve alone has a clock"
scene_trouble_text trouble.Restart = codes "serve alone restarts an instrument at a request"
scene_trouble_text trouble.Late = codes "rehearse alone has late replies"
scene_trouble_text (trouble.Form w) = codes "the form is " ++ form_text w
scene_trouble_text trouble.Serial = codes "N is no whole number of 32 bits"
scene_trouble_text trouble.Name = codes "TEXT has more than 64 bytes, a double quote or a carriage return"
scene_trouble_text trouble.Rpc = codes "RPC is no number up to 65535"
scene_trouble_text trouble.Rc = codes "RC is no number up to 65535"
scene_trouble_text trouble.Target = codes "TARGET is no number up to 32"
scene_trouble_text trouble.From = codes "FROM is no number up to 4294967295"
scene_trouble_text trouble.To = codes "TO is no number up to 4294967295"
scene_trouble_text trouble.Hz = codes "HZ is no decimal"
scene_trouble_text trouble.V = codes "V is no decimal"
scene_trouble_text trouble.Distance = codes "the distance is no decimal"
scene_trouble_text trouble.Seed = codes "SEED is no number up to 4294967295"
scene_trouble_text trouble.Ms = codes "MS is no number up to 3600000"
scene_trouble_text (trouble.InTable rpc) = decimal rpc ++ codes " is in the table: answer is for other procedures"
scene_trouble_text trouble.Params = codes "PARAMS has more than 16 parameters, a double quote without its end, or too many bytes"

-- the line that the program writes of the trouble of a scene's line with this number, counted from 1
abbrev pub scene_trouble_line : (line : ℕ) → SceneTrouble → List ℕ
scene_trouble_line line t = (codes "geocom: line " ++ decimal line ++ codes " of the scene: ") ++ (scene_trouble_text t ++ codes "\n")
