-- Which job the words ask for.
use Rattle.gc_console.proofs.Common.{◌≡◌, ◌∙◌, ℕ, Bool, true, false, List, [], ◌∷◌, Option, Some, None, refl, sym, subst, ap, codes, inl, inr, find, option_map, Box, IsSome, is_some, box_value, subcommand_rows, Text, out-SubCommand, SubCommand, Place, IsJobOf, are_dated, name_of, station_job, subcommand_named, subcommands, Job, Subcommand, HasNumbers, HasRehearsalNumbers, IsChosen, IsRecording, IsSite, HasLimits, is_at_without_multiple, is_stale_too_soon, unit_in, Words, has_flag}
use Rattle.std.proofs.lemmas.Slice.Eq.{bytes_eq-Decides}
use Rattle.std.specs.Str.{bytes_eq}
use Rattle.gc_options.specs.declared.limit.Limit.TheVariants.{Cycles, NightCycles}
use Rattle.gc_options.specs.declared.rehearsal.Rehearsal.{Rehearsal}
use Rattle.gc_options.specs.declared.settings.Settings.{Settings}
use Rattle.gc_options.specs.declared.site.Recording.{Recording}
use Rattle.gc_options.specs.declared.site.Site.{Site}
use Rattle.gc_options.specs.declared.unit.Unit.{Unit}
use Rattle.gc_console.specs.declared.words.ClientJob.TheVariants as kind
use Rattle.gc_console.specs.declared.words.Job.TheVariants as job
use Rattle.gc_console.specs.declared.words.Subcommand.TheVariants as subcommand

-- each subcommand is found by its name
pub named_again : (s : Subcommand) → subcommand_named (name_of s) ≡ Some s
named_again subcommand.Exec = refl
named_again subcommand.Check = refl
named_again subcommand.Drill = refl
named_again subcommand.Loop = refl
named_again subcommand.Serve = refl
named_again subcommand.Ask = refl
named_again subcommand.Station = refl
named_again subcommand.Rehearse = refl

-- what is found passes the test
found_passes : {X : Type 0} (test : X → Bool) (xs : List X) (x : X) → find test xs ≡ Some x → test x ≡ true
found_passes {X} test [] x is =
    let bad : ◌≡◌ {A = Option X} None (Some x) = is in
    cc
found_passes {X} test (y ∷ ys) x is = go (test y) refl (found_passes test ys x)
  where
    go : (b : Bool) → test y ≡ b → (find test ys ≡ Some x → test x ≡ true) → test x ≡ true
    go true passes later =
        let same : Some y ≡ Some x = rw passes at is in
        let y_is : y ≡ x = cc in
        subst (λ z. test z ≡ true) y_is passes
    go false fails later = later (rw fails at is)

-- a subcommand has the name by which it is found
pub named_so : (name : Text) (s : Subcommand) → subcommand_named name ≡ Some s → name_of s ≡ name
named_so name s is = (bytes_eq-Decides (name_of s) name).0 (found_passes (λ known. bytes_eq (name_of known) name) subcommands s is)

-- what a station of these words is to do is what they ask for
pub station_asked : (words : Words) (site : Site) (station : Settings) (recording : Option Recording) (checks : Bool) (unit : Option Unit) → IsSite words site
    → IsChosen Cycles words station → IsRecording words recording → has_flag words (codes "check") ≡ checks → unit_in words ≡ Some unit
    → IsJobOf (Some (codes "station", words)) (station_job site station recording checks unit)
station_asked words site station recording checks unit at_site chosen recorded flag shown =
    go (is_stale_too_soon station.choice) refl (is_at_without_multiple station.choice) refl (are_dated site.log recording) refl checks flag
  where
    go : (stale : Bool) → is_stale_too_soon station.choice ≡ stale → (late : Bool) → is_at_without_multiple station.choice ≡ late
        → (dated : Bool) → are_dated site.log recording ≡ dated → (checks : Bool) → has_flag words (codes "check") ≡ checks
        → IsJobOf (Some (codes "station", words)) (station_job site station recording checks unit)
    go true stale late due dated named checks flag =
        rw stale (inl (record {
          words = words;
          named = refl;
          is = record {
            station = station;
            planned = record { place = site.place; given = at_site.place; chosen = chosen };
            stale = stale;
          };
        }))
    go false fresh true late dated named checks flag =
        rw (fresh, late) (record {
          words = words;
          named = refl;
          is = record {
            station = station;
            planned = record { place = site.place; given = at_site.place; chosen = chosen };
            late = late;
          };
        })
    go false fresh false due false undated checks flag =
        rw (fresh, due, undated) (record {
          words = words;
          named = refl;
          is = record { log = site.log; logged = at_site.log; recording = recording; recorded = recorded; undated = undated };
        })
    go false fresh false due true dated true flag =
        rw (fresh, due, dated) (record {
          words = words;
          named = refl;
          is = record {
            station = station;
            planned = record { place = site.place; given = at_site.place; chosen = chosen };
            is = refl;
            shown = shown;
            checks = flag;
            fresh = fresh;
            due = due;
          };
        })
    go false fresh false due true dated false flag =
        rw (fresh, due, dated) (record {
          words = words;
          named = refl;
          is = record { at_site = at_site; chosen = chosen; recorded = recorded; measures = flag; fresh = fresh; due = due; dated = dated };
        })

-- where each limit is there, words of which no station is read lack a number
pub station_missing : (words : Words) (r : Option Settings) → HasLimits words Cycles → (HasNumbers words → HasLimits words Cycles → IsSome r) → r ≡ None
    → IsJobOf (Some (codes "station", words)) job.NumberMissing
station_missing words r limits only none = inl (record { words = words; named = refl; is = (limits, lacking) })
  where
    lacking : HasNumbers words → ⊥
    lacking numbers =
        let bad : false ≡ true = subst (λ o. IsSome o) none (only numbers limits) in
        cc

-- likewise of a rehearsal
pub rehearsal_missing : (words : Words) (r : Option Rehearsal) → HasLimits words NightCycles
    → (HasRehearsalNumbers words → HasLimits words NightCycles → IsSome r) → r ≡ None → IsJobOf (Some (codes "rehearse", words)) job.NumberMissing
rehearsal_missing words r limits only none = inr (record { words = words; named = refl; is = (limits, lacking) })
  where
    lacking : HasRehearsalNumbers words → ⊥
    lacking numbers =
        let bad : false ≡ true = subst (λ o. IsSome o) none (only numbers limits) in
        cc

-- a subcommand that was found has one name
pub one_name : (a b : Text) (u v : Words) (asked : Option (Text × Words)) → asked ≡ Some (a, u) → asked ≡ Some (b, v) → a ≡ b
one_name a b u v asked first second =
    let pair : ◌≡◌ {A = Text × Words} (a, u) (b, v) = cc in
    ap (λ p. p.0) pair

module _ {Z : Type 0} (name : Text) (words : Words) where
  -- the name and the words that a getter gives are those that clap found
  pub found_subcommand : (sub : Option (Box SubCommand Z)) → Some name ≡ option_map (λ b. (out-SubCommand (box_value b)).name.now) sub
      → Some words ≡ option_map (λ found. found.1) (subcommand_rows sub) → subcommand_rows sub ≡ Some (name, words)
  found_subcommand None named rows =
      let bad : ◌≡◌ {A = Option Text} (Some name) None = named in
      cc
  found_subcommand (Some b) named rows = cc

  -- a getter that gives nothing found no subcommand
  pub none_found : (sub : Option (Box SubCommand Z)) → false ≡ is_some sub → subcommand_rows sub ≡ Some (name, words) → ⊥
  none_found None none found = cc
  none_found (Some b) none found = cc
