-- The settings of a station whose rows go into a file, of one whose run begins, and of one that is refused: this project's own.
use Rattle.std.specs.Prelude.{ℕ, Bool, true, false, ◌&&◌, nat_le, nat_lt, Option, Some, None, if◌then◌else◌}
use Rattle.gc_rows.specs.declared.record.Form.{Form}
use Rattle.gc_rows.specs.declared.record.Form.TheVariants.{Lines, Csv, Columns, Json}
use Rattle.gc_options.specs.declared.choice.Choice.{Choice}
use Rattle.gc_options.specs.declared.choice.Watch.{Watch}
use Rattle.gc_options.specs.declared.settings.Settings.{Settings}
use Rattle.gc_options.specs.declared.choice.Watch.TheVariants as watch

-- the form of rows that go into a file: the one that was asked for, but comma-separated values in place of `Lines`
abbrev pub form_of_rows : Form → Form
form_of_rows Lines = Csv
form_of_rows Csv = Csv
form_of_rows Columns = Columns
form_of_rows Json = Json

-- the settings of a station whose records are rows of a file: in `form_of_rows`, and without a header; where the form has one,
-- the file has it already
abbrev pub for_file : Settings → Settings
for_file station = record station { layout = record station.layout { form = form_of_rows station.layout.form; headed = true } }

-- the settings of a station whose run began at `run`, in milliseconds since 1970-01-01, UTC
abbrev pub begun_at : ℕ → Settings → Settings
begun_at run station = record station { layout = record station.layout { run = run } }

-- whether the run would end for want of an answer before a second cycle is due: `stale` isn't 0, and is below `every`
abbrev pub is_stale_too_soon : Choice → Bool
is_stale_too_soon choice = nat_lt 0 choice.stale && nat_lt choice.stale choice.every

-- whether there is a time `at`, and it isn't below `every`
abbrev pub is_not_below : (every : ℕ) → Option ℕ → Bool
is_not_below every None = false
is_not_below every (Some at) = nat_le every at

-- whether cycles are to be due by the clock, but not before the next whole multiple of `every`: `at` isn't below it
abbrev pub is_at_without_multiple : Choice → Bool
is_at_without_multiple choice = is_not_below choice.every choice.at

-- who watches, if somebody reads the messages at a terminal (`at_terminal`): who reads lines then sits there
abbrev pub watch_shown : (at_terminal : Bool) → Watch → Watch
watch_shown at_terminal watch.Nobody = watch.Nobody
watch_shown at_terminal watch.Lines = if at_terminal then watch.Terminal else watch.Lines
watch_shown at_terminal watch.Terminal = watch.Terminal

-- these settings, with a status line if somebody reads the messages at a terminal, unless the choice has no signs of life
abbrev pub with_status_line : (at_terminal : Bool) → Settings → Settings
with_status_line at_terminal station = record station { choice = record station.choice { watch = watch_shown at_terminal station.choice.watch } }
