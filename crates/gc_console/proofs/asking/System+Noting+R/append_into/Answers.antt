use Rattle.gc_console.proofs.Common.{◌≡◌, sym, IfOk-weaker, place_seen, signals_at, file_of, path_of}
use Rattle.gc_files.specs.Prelude.{asks_sync}
use Rattle.gc_console.proofs.Ends.{of_file}
use Rattle.gc_console.proofs.asking.System+Noting+R.append_into.Goals as goal

pub returns-clause-told : goal.returns-clause-told
returns-clause-told g c =
    let left = c.end_appending-link.ensures in
    IfOk-weaker c.append_text_at-streams.result.1 _ _
    (λ status t. record {
      file = file_of c.append_text_at-streams.result.2;
      ran = t;
      place = left.meant (place_seen c.args.spot.site.place) (signals_at c.args.spot.site.signals) c.append_text_at-streams.ensures.place;
      path = of_file (λ file. path_of file ≡ c.args.recording.path.now) c.append_text_at-streams.result.2 c.append_text_at-streams.ensures.path;
      sync = of_file (λ file. asks_sync file.rows ≡ c.args.recording.sync) c.append_text_at-streams.result.2 c.append_text_at-streams.ensures.sync;
      rows = left.rows;
      output = c.append_text_at-streams.ensures.output;
    })
    (rw (c.new-kept.ensures, sym left.acts, sym left.began) at c.append_text_at-streams.ensures.told)
