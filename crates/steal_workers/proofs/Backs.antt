-- The thieves of a deque go back to its owner, one worker after another.
use Rattle.std.proofs.Common.{◌≡◌, ◌≢◌, ℕ, zero, suc, ◌<◌, ◌+◌, ◌⊎◌, inl, inr, List, [], ◌∷◌}
use Rattle.std.proofs.Common.{◌++◌, length, set, map, refl, sym, ap, ◌∙◌, subst, arith, All}
use Rattle.std.proofs.Common.{length-append, length-set, get_or-set_other, sum_by, cond, Some}
use Rattle.std.proofs.lemmas.Bool.{cases_eq}
use Rattle.std.proofs.lemmas.List.{length-map, map_push, same_from_push}
use Rattle.std.proofs.lemmas.List.Elements.{All-pop}
use Rattle.std.proofs.lemmas.List.Sums.{sum_by-cons}
use Rattle.list_laws.specs.Sets.{times, same_list}
use Rattle.list_laws.proofs.Times.{times-append}
use Rattle.steal_deques.specs.Deque.{Balances, DequeOwner, DequeThief}
use Rattle.steal_workers.specs.Deques.{AllThieves, AreBack, AreOfAll, EndsOne, GivesOne, Home}
use Rattle.steal_workers.specs.Deques.{IsLastOfAll, IsLent}
use Rattle.steal_workers.specs.Deques.{all_but, all_popped, all_pushed, all_stolen, thieves_of}
use Rattle.steal_workers.specs.Deques.{home_of, homes_of}
use Rattle.running_worker.specs.Worked.{stolen_count}
use Rattle.core_machine.proofs.Lists.{sum-append, sum-set}
use Rattle.steal_workers.proofs.Deals.{all-but-beyond, all-but-last, all-but-more}
use Rattle.steal_workers.proofs.Deals.{others-more, others-same}

-- the last of some thieves, where their homes end with its home
pub last-home : (thieves rest : List DequeThief) (thief : DequeThief) (homes : List Home)
    (home : Home) → homes_of thieves ≡ homes ++ home ∷ [] → thieves ≡ rest ++ thief ∷ [] →
    (homes_of rest ≡ homes) × ((thief.deque, thief.ranked) ≡ home)
last-home thieves rest thief homes home e is =
    same_from_push (homes_of rest) homes (thief.deque, thief.ranked) home
    (sym (map_push (λ (t : DequeThief). (t.deque, t.ranked)) rest thief) ∙ sym (ap homes_of is) ∙ e)

pub some-last : (thieves : List DequeThief) (homes : List Home) (home : Home) →
    homes_of thieves ≡ homes ++ home ∷ [] → 0 < length thieves
some-last [] homes home e =
    absurd (omega (arith, ap length e, length-append homes (home ∷ [])))
some-last (t ∷ thieves) homes home e = omega arith

-- the next worker gives its last thief back, or is the owner
module _ (own0 own1 : DequeOwner) (number t : ℕ) (before now : AllThieves)
    (so : AreBack own0 own1 number t before now) where
  pub back-next : (own2 : DequeOwner) (next : AllThieves) (thief : DequeThief) →
      t < length before → t ≢ number → thieves_of now t ≡ thieves_of next t ++ thief ∷ [] →
      next ≡ set now t (thieves_of next t) →
      own2 ≡ record own1 {
        shares = own1.shares + 1;
        stolen = own1.stolen ++ thief.stolen;
      } →
      AreBack own0 own2 number (t + 1) before next
  back-next own2 next thief l n last others e = record {
    same =
        let d = ap (λ (o : DequeOwner). o.deque) e ∙ ap (λ (o : DequeOwner). o.deque) so.same in
        let r = ap (λ (o : DequeOwner). o.ranked) e ∙ ap (λ (o : DequeOwner). o.ranked) so.same in
        let a = ap (λ (o : DequeOwner). o.all) e ∙ ap (λ (o : DequeOwner). o.all) so.same in
        let p = ap (λ (o : DequeOwner). o.pushed) e ∙ ap (λ (o : DequeOwner). o.pushed) so.same in
        let q = ap (λ (o : DequeOwner). o.popped) e ∙ ap (λ (o : DequeOwner). o.popped) so.same in
        λ i. record {
          deque = d i;
          ranked = r i;
          all = a i;
          shares = own2.shares;
          pushed = p i;
          popped = q i;
          stolen = own2.stolen;
        };
    shares = omega (
      arith,
      ap (λ (o : DequeOwner). o.shares) e,
      so.shares,
      others-more number t n,
    );
    given = record {
      count = ap length others ∙ length-set now t (thieves_of next t) ∙ so.given.count;
      others = given;
      later = λ i m.
          ap (λ h. thieves_of h i) others
          ∙ get_or-set_other now t i (thieves_of next t) [] (λ q. absurd (omega (arith, q, m)))
          ∙ so.given.later i (omega (arith, m));
      own = ap (λ h. thieves_of h number) others
          ∙ get_or-set_other now t number (thieves_of next t) [] (λ q. n (sym q)) ∙ so.given.own;
    };
    stolen = λ x. omega (
      arith,
      ap (λ (o : DequeOwner). times same_list x o.stolen) e,
      times-append same_list x own1.stolen thief.stolen,
      ap (all_stolen x) others,
      sum-set (stolen_count x) now t (thieves_of next t) [] (omega (arith, l, so.given.count)),
      ap (stolen_count x) last,
      sum-append (λ (other : DequeThief). times same_list x other.stolen) (thieves_of next t)
          (thief ∷ []),
      so.stolen x,
    );
  }
    where
      last-or-before : (i : ℕ) → i < t + 1 → (i ≡ t) ⊎ (i < t)
      last-or-before i m = grind arith

      given : (i : ℕ) → i < t + 1 → i ≢ number →
          (thief : DequeThief) × (thieves_of before i ≡ thieves_of next i ++ thief ∷ [])
      given i m k = elim (last-or-before i m) [
        | inl q ↦ (thief, rw q (sym (so.given.later t (omega arith)) ∙ last))
        | inr b ↦ (
          (so.given.others i b k).0,
          (so.given.others i b k).1
              ∙ ap (λ h. h ++ (so.given.others i b k).0 ∷ [])
              (sym (ap (λ h. thieves_of h i) others
              ∙ get_or-set_other now t i (thieves_of next t) []
              (λ q. absurd (omega (arith, q, b))))),
        )
      ]

  pub back-owner : t ≡ number → AreBack own0 own1 number (t + 1) before now
  back-owner e = record {
    same = so.same;
    shares = omega (arith, so.shares, others-same number t e);
    given = record {
      count = so.given.count;
      others = λ i m k. so.given.others i (less i m (λ q. k (q ∙ e))) k;
      later = λ i m. so.given.later i (omega (arith, m));
      own = so.given.own;
    };
    stolen = so.stolen;
  }
    where
      less : (i : ℕ) → i < t + 1 → i ≢ t → i < t
      less i m k = grind arith

  -- the next worker that isn't the owner has a thief to give back
  pub next-has : IsLastOfAll number own0 before → t < length before → t ≢ number →
      (homes : List Home) × (homes_of (thieves_of now t) ≡ homes ++ home_of own0 ∷ [])
  next-has lasts l n =
      let last = lasts.others t l n in
      (last.0, ap homes_of (so.given.later t (omega arith)) ∙ last.1)

-- Without the last deque each worker has a thief of every deque but its own.
module _ (owns : List DequeOwner) (own : DequeOwner) (before : AllThieves)
    (has : AreOfAll (owns ++ own ∷ []) before) where
  homes-there : map home_of (owns ++ own ∷ []) ≡ map home_of owns ++ home_of own ∷ []
  homes-there = map_push home_of owns own

  other-home : (i : ℕ) → i < length before → i ≢ length owns →
      homes_of (thieves_of before i) ≡ all_but i (map home_of owns) ++ home_of own ∷ []
  other-home i l n =
      has i l ∙ ap (all_but i) homes-there
      ∙ all-but-more (map home_of owns) (home_of own) i (λ q. n (q ∙ length-map owns home_of))

  pub last-of-all : IsLastOfAll (length owns) own before
  last-of-all = record { others = λ i l n. (all_but i (map home_of owns), other-home i l n) }

  pub of-all-less : (after : AllThieves) → GivesOne (length owns) (length before) before after →
      AreOfAll owns after
  of-all-less after gives i m = elim (cases_eq i (length owns)) [
    | inl e ↦ rw e (
        ap homes_of gives.own ∙ has (length owns) (omega (arith, ap (λ n. n) e, m, gives.count))
        ∙ ap (all_but (length owns)) homes-there
        ∙ subst (λ n. all_but n (map home_of owns ++ home_of own ∷ []) ≡ map home_of owns)
        (length-map owns home_of) (all-but-last (map home_of owns) (home_of own))
        ∙ sym (all-but-beyond (map home_of owns) (length owns)
        (omega (arith, length-map owns home_of))))
    | inr n ↦ (let l : i < length before = omega (arith, m, gives.count) in
        let given = gives.others i l n in
        (last-home (thieves_of before i) (thieves_of after i) given.0 (all_but i (map home_of owns))
        (home_of own) (other-home i l n) given.1).0)
  ]

-- where no deque is left no thief is
pub none-stolen : (x : List ℕ) (all_thieves : AllThieves) → AreOfAll [] all_thieves →
    all_stolen x all_thieves ≡ 0
none-stolen x [] has = refl
none-stolen x (h ∷ all_thieves) has =
    omega (
      arith,
      ap (stolen_count x) (no-thief h (has 0 (omega arith))),
      none-stolen x all_thieves (λ i l. has (suc i) (omega arith) ∙ none i),
    )
  where
    no-thief : (thieves : List DequeThief) → homes_of thieves ≡ all_but 0 [] → thieves ≡ []
    no-thief [] e = refl
    no-thief (t ∷ thieves) e = absurd (omega (arith, ap length e))

    none : (i : ℕ) → all_but {X = Home} (suc i) [] ≡ all_but i []
    none zero = refl
    none (suc i) = refl

-- where a path weighs one and any other nothing, the weight of paths is how often it stands there
times-weighs : (x : List ℕ) (paths : List (List ℕ)) →
    sum_by (λ path. cond (same_list x path) 1 0) paths ≡ times same_list x paths
times-weighs x [] = refl
times-weighs x (path ∷ paths) =
    omega (
      arith,
      sum_by-cons (λ path. cond (same_list x path) 1 0) path paths,
      times-weighs x paths,
    )

pub balanced-times : (pushed popped stolen left : List (List ℕ)) →
    Balances pushed popped stolen left → (x : List ℕ) →
    times same_list x pushed
    ≡ times same_list x popped + times same_list x stolen + times same_list x left
balanced-times pushed popped stolen left b x =
    omega (
      arith,
      b (λ path. cond (same_list x path) 1 0),
      times-weighs x pushed,
      times-weighs x popped,
      times-weighs x stolen,
      times-weighs x left,
    )

-- a deque of which all thieves are back has ended
pub ends-one : (own0 own1 : DequeOwner) (number n : ℕ) (before after : AllThieves)
    (left gone left' : List (List ℕ)) → length before ≡ n →
    AreBack own0 own1 number n before after →
    Balances own1.pushed own1.popped own1.stolen gone → left' ≡ left ++ gone →
    EndsOne own0 number before after left left'
ends-one own0 own1 number n before after left gone left' long back balances e = record {
  given = subst (λ k. GivesOne number k before after) (sym long) back.given;
  paths = λ x. omega (
    arith,
    balanced-times own1.pushed own1.popped own1.stolen gone balances x,
    ap (λ (o : DequeOwner). times same_list x o.pushed) back.same,
    ap (λ (o : DequeOwner). times same_list x o.popped) back.same,
    back.stolen x,
    ap (times same_list x) e,
    times-append same_list x left gone,
  );
}

-- One deque after another ends, from the last.
module _ (owns rest : List DequeOwner) (own : DequeOwner) (before : AllThieves) (n : ℕ)
    (is : owns ≡ rest ++ own ∷ []) (at : n ≡ length rest) (has : AreOfAll owns before) where
  there : AreOfAll (rest ++ own ∷ []) before
  there = subst (λ os. AreOfAll os before) is has

  pub last-thieves : IsLastOfAll n own before
  last-thieves =
      subst (λ k. IsLastOfAll k own before) (sym at) (last-of-all rest own before there)

  pub less-thieves : (after : AllThieves) → GivesOne n (length before) before after →
      AreOfAll rest after
  less-thieves after gives =
      of-all-less rest own before there after
      (subst (λ k. GivesOne k (length before) before after) at gives)

  pub less-lent : (workers : ℕ) → All (IsLent workers) owns → All (IsLent workers) rest
  less-lent workers all = (All-pop (IsLent workers) owns rest (Some own) is all).0

  -- the sums so far go on
  pub paths-more : (x : List ℕ) (a b : ℕ) (after : AllThieves) (left left' : List (List ℕ)) →
      EndsOne own n before after left left' →
      a + all_popped x owns + all_stolen x before
      ≡ times same_list x left + all_pushed x owns + b →
      a + all_popped x rest + all_stolen x after
      ≡ times same_list x left' + all_pushed x rest + b
  paths-more x a b after left left' ends so =
      omega (
        arith,
        so,
        ends.paths x,
        ap (all_popped x) is,
        ap (all_pushed x) is,
        sum-append (λ (o : DequeOwner). times same_list x o.popped) rest (own ∷ []),
        sum-append (λ (o : DequeOwner). times same_list x o.pushed) rest (own ∷ []),
      )

pub none-left : (owns : List DequeOwner) (all_thieves : AllThieves) (x : List ℕ) → length owns ≡ 0 →
    AreOfAll owns all_thieves →
    (all_stolen x all_thieves ≡ 0) × (all_popped x owns ≡ 0) × (all_pushed x owns ≡ 0)
none-left [] all_thieves x e has = (none-stolen x all_thieves has, refl, refl)
none-left (own ∷ owns) all_thieves x e has = absurd (omega (arith, e))
