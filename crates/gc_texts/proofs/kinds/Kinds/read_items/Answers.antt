use Rattle.gc_texts.proofs.Common.{◌≡◌, ◌<◌, ◌≤◌, ◌+◌, List, ℕ, length, take, subst, sym, arith, drop_all, length-take-le, IsItem, Kind, SuitsCount}
use Rattle.gc_texts.proofs.KindSteps.{ReadTo, all_read, one_read, suits_enough}
use Rattle.gc_texts.proofs.kinds.Kinds.read_items.Goals as goal

pub push-requires : goal.push-requires
push-requires c =
    let ks : List Kind = take c.args.self.now.len c.args.self.now.kinds in
    let all : length ks ≡ c.args.self.now.len = length-take-le c.args.self.now.len c.args.self.now.kinds (omega (arith, c.args.self.now.few, c.args.self.now.long)) in
    omega (arith, all, c.args.self.now.few, c.loop-k.invariant.count)

pub loop-k-preserved : goal.loop-k-preserved
loop-k-preserved c =
    let ks : List Kind = take c.args.self.now.len c.args.self.now.kinds in
    let all : length ks ≡ c.args.self.now.len = length-take-le c.args.self.now.len c.args.self.now.kinds (omega (arith, c.args.self.now.few, c.args.self.now.long)) in
    let enough : c.args.self.now.len ≤ c.len.result = suits_enough c.args.self.now.more c.len.result c.args.self.now.len (c.suits_count.ensures.0 c.if-not-suits_count.false) in
    let below : c.loop-k.k < length ks = omega arith in
    let within : c.loop-k.k < length c.args.items.now = omega (arith, enough, below, all, c.len.ensures.value) in
    subst (ReadTo ks c.args.items.now (c.loop-k.k + 1)) (sym c.push.ensures.items)
    (one_read ks c.args.items.now c.loop-k.k _ c.loop-k.values.items c.loop-k.invariant below within c.in-Ok.value c.in-Ok.ensures.value.0
    (subst (λ (item : List ℕ). IsItem item c.in-Ok.value) c.get.ensures c.in-Ok.ensures.value.1))

pub returns-clause-values : goal.returns-clause-values
returns-clause-values c =
    let ks : List Kind = take c.args.self.now.len c.args.self.now.kinds in
    let all : length ks ≡ c.args.self.now.len = length-take-le c.args.self.now.len c.args.self.now.kinds (omega (arith, c.args.self.now.few, c.args.self.now.long)) in
    let past : length ks ≤ c.loop-k.k = omega arith in
    record {
      count = subst (λ (n : ℕ). SuitsCount c.args.self.now.more n (length ks)) c.len.ensures.value
          (subst (λ (n : ℕ). SuitsCount c.args.self.now.more c.len.result n) (sym all) (c.suits_count.ensures.0 c.if-not-suits_count.false));
      read = all_read ks c.args.items.now c.loop-k.k c.loop-k.values.items c.loop-k.invariant (drop_all c.loop-k.k ks past);
    }
