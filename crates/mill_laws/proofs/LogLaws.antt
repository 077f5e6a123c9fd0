-- The laws of logs. Where a log refutes a loss, no legal plan of the instance loses less: the plan
-- in rank is legal and loses the same, its twin is a word of the tree that loses the same, and
-- words of the tree lose at least what the log refutes.
use Rattle.std.proofs.Common.{ℕ, ◌≡◌, ◌≤◌, true, List, ◌++◌, arith}
use Rattle.mill_model.specs.Plan.{loss, IsLegalPlan}
use Rattle.mill_model.specs.Rank.{ranked_orders, plan_in_rank}
use Rattle.mill_model.specs.Log.{Task, sound, Refutes}
use Rattle.mill_model.specs.declared.closing.Entry.{Entry}
use Rattle.mill_model.specs.Log.{task_of_orders}
use Rattle.mill_laws.specs.LogLaws.{RefutedLossBounds, LesserLossIsRefuted, RecordedOnce}
use Rattle.mill_laws.proofs.Law.{Dominates, words-law}
use Rattle.mill_laws.proofs.Paths.{Word}
use Rattle.mill_laws.proofs.Twin.{twin, twin-word, twin-loss}
use Rattle.mill_laws.proofs.Carry.{settled, settled-word, settled-loss}
use Rattle.mill_laws.proofs.Ranked.{ranked-loss, ranked-legal, ranked-each}
use Rattle.mill_laws.proofs.Merged.{sound-less}
use Rattle.list_laws.proofs.Among.{each-weaker}
use Rattle.mill_laws.proofs.RecordedOnce.{once-recorded}

-- a word is carried to a path that dominates
pub carry : (task : Task) → task.charge 0 ≡ 0 → (path other more : List ℕ) →
    Word task path more → Dominates task path other → (more' : List ℕ) × Word task other more'
    × (loss task.charge (other ++ more') task.ranked ≤ loss task.charge (path ++ more) task.ranked)
carry task z path other more w d = (
  settled task path other more w d.tree d.same_length d.key,
  settled-word task path other more w d.tree d.same_length d.key d.starts,
  settled-loss task path other more w d.tree d.same_length d.key z d.dead,
)

-- the law on plans of ranked orders
pub ranked-law : (task : Task) (bound : ℕ) (log : List Entry) → task.charge 0 ≡ 0 →
    Refutes task bound log → (plan : List ℕ) → IsLegalPlan task.mill task.ranked plan →
    bound ≤ loss task.charge plan task.ranked
ranked-law task bound log z r plan l =
    omega (
      arith,
      words-law task bound log r (carry task z) (twin task.ranked plan) (twin-word task plan l),
      twin-loss task plan l z,
    )

pub refuted-loss-bounds : RefutedLossBounds
refuted-loss-bounds mill charge orders bound log z r plan l =
    let in-rank : IsLegalPlan mill (ranked_orders orders) (plan_in_rank orders plan) =
    record {
      each = ranked-each orders plan l.each;
      slabs = ranked-legal orders plan l.each mill l.slabs;
    } in
    omega (
      arith,
      ranked-law (task_of_orders mill charge orders) bound log z r (plan_in_rank orders plan)
          in-rank,
      ranked-loss orders plan l.each charge,
    )

pub lesser-loss-is-refuted : LesserLossIsRefuted
lesser-loss-is-refuted task bound lesser log l r = record {
  complete = r.complete;
  each_sound =
      each-weaker (λ e. sound task bound e.path e.closing ≡ true)
      (λ e. sound task lesser e.path e.closing ≡ true) log
      (λ e h. sound-less task bound lesser e.path e.closing l h) r.each_sound;
  each_named = r.each_named;
}

pub recorded-once : RecordedOnce
recorded-once task log path complete = once-recorded task log complete path
