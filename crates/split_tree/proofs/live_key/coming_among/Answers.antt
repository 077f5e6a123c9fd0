-- Each colour that is noted is another one of those given, so they are no more than those.
use Rattle.std.proofs.Common.{rules, ◌≡◌, ◌<◌, ◌≤◌, ◌+◌, ◌*◌, ◌^◌, true}
use Rattle.std.proofs.Common.{length, get_or, arith, ap, sym, ◌∙◌}
use Rattle.std.proofs.lemmas.Option.{slice_get-get_or}
use Rattle.list_laws.specs.Sets.{holds}
use Rattle.slab_rules.proofs.Joined.{any-holds}
use Rattle.split_tree.specs.Keys.{padded}
use Rattle.split_tree.proofs.Coming.{count-more, noted-more, skipped-more}
use Rattle.split_tree.proofs.live_key.coming_among.Goals as goal
use Rattle.split_tree.proofs.live_key.coming_among.Goals.{then-contains, else-contains}

fewer : (c : goal.Then-contains) → c.loop-i.count + 1 ≤ length c.args.colours.now
fewer c =
    let colour = get_or c.args.coming.now c.loop-i.i 0 in
    let there : holds colour c.args.colours.now ≡ true =
    sym (any-holds colour c.args.colours.now) ∙ sym c.contains.ensures.value ∙ c.if-contains.true in
    let more = count-more c.args.colours.now c.args.coming.now c.loop-i.i colour c.requires.rising
    (slice_get-get_or c.args.coming.now c.loop-i.i 0 c.loop-i-test.true) there in
    omega (arith, more, c.loop-i.invariant.count)

pub offset_bounds-among-count : goal.offset_bounds-among-count
offset_bounds-among-count c =
    let few : c.loop-i.count + 1 ≤ length c.args.colours.now = fewer c in
    let fits : c.loop-i.count * 2 < 2 ^ 64 = omega (arith, c.requires.few) in
    search rules

pub bounds-among-count : goal.bounds-among-count
bounds-among-count c =
    let few : c.loop-i.count + 1 ≤ length c.args.colours.now = fewer c in
    omega (arith, c.requires.few)

pub overflow_add-count : goal.overflow_add-count
overflow_add-count c =
    let few : c.loop-i.count + 1 ≤ length c.args.colours.now = fewer c in
    let fits : c.loop-i.count + 1 < 2 ^ 64 = omega (arith, c.requires.few) in
    search rules

pub loop-i-preserved : goal.loop-i-preserved
loop-i-preserved c =
    let colour = get_or c.args.coming.now c.loop-i.i 0 in
    let got = slice_get-get_or c.args.coming.now c.loop-i.i 0 c.loop-i-test.true in
    let asked : c.contains.result ≡ holds colour c.args.colours.now =
    c.contains.ensures.value ∙ any-holds colour c.args.colours.now in
    elim c.if-contains.branch [
      | then-contains w ↦ (let more = noted-more c.args.colours.now c.args.coming.now c.loop-i.i
          colour c.loop-i.count c.loop-i.among c.requires.rising c.requires.few got
          (sym asked ∙ w.if-contains.true) c.loop-i.invariant.count c.loop-i.invariant.among in
          rw (w.count-is, w.among-is) (record { count = more.0; among = more.1 }))
      | else-contains w ↦ (let more = skipped-more c.args.colours.now c.args.coming.now c.loop-i.i
          colour got (sym asked ∙ w.if-contains.false) in
          rw (w.count-is, w.among-is) (record {
            count = c.loop-i.invariant.count ∙ ap length (sym more);
            among = c.loop-i.invariant.among ∙ ap padded (sym more);
          }))
    ]
