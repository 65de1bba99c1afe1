use Rattle.gc_links.proofs.Common.{◌+◌, ◌≤◌, ◌<◌, length, take, arith, get_or, slice_set, path_of, AreValues, IsTakenBy}
use Rattle.gc_links.proofs.Making.{makes_as, makes_none, makes_then}
use Rattle.gc_links.proofs.Taking.{values_all, values_more, values_none}
use Rattle.gc_links.proofs.watched.take_values.Goals as goal

pub loop-k-init : goal.loop-k-init
loop-k-init g c =
    makes_none (λ reads. AreValues (take 0 c.args.files.now) c.args.now reads c.no_values-values.result) (values_none c.args.files.now c.args.now c.no_values-values.result c.no_values-values.ensures)

pub loop-k-preserved : goal.loop-k-preserved
loop-k-preserved g c =
    let files = c.args.files.now in
    let k = c.loop-k.k in
    let here : k < length files = omega arith in
    let few : length files ≤ 16 = c.requires in
    makes_then (λ reads. AreValues (take k files) c.args.now reads c.loop-k.values)
    (λ more. IsTakenBy (path_of (get_or files k _)) (get_or files k _).seconds c.args.now more c.take_value.result)
    (λ reads. AreValues (take (k + 1) files) c.args.now reads (slice_set c.loop-k.values k c.take_value.result))
    (λ xs ys is more. values_more files k c.args.now xs ys c.loop-k.values c.take_value.result _ here few is more)
    c.loop-k.invariant c.take_value.ensures

pub returns : goal.returns
returns g c =
    let all : length c.args.files.now ≤ c.loop-k.k = omega arith in
    makes_as (λ reads. AreValues (take c.loop-k.k c.args.files.now) c.args.now reads c.loop-k.values) (λ reads. AreValues c.args.files.now c.args.now reads c.loop-k.values)
    (λ reads is. values_all c.args.files.now c.loop-k.k c.args.now reads c.loop-k.values all is) c.loop-k.invariant
