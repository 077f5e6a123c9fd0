-- The best entry of a key is found where its dead loss is low enough, and stays the best until a
-- lesser one is noted.
use Rattle.std.proofs.Common.{ℕ, zero, suc, ◌+◌, ◌<◌, ◌≤◌, ◌≡◌, Bool, true, false, cond, ◌&&◌}
use Rattle.std.proofs.Common.{leb}
use Rattle.std.proofs.Common.{List, [], ◌∷◌, ◌++◌, length, Option, Some, None, refl, sym, ap, ap₂}
use Rattle.std.proofs.Common.{◌∙◌, get_or}
use Rattle.std.proofs.Common.{arith, inl, inr, le-leb, leb-true, length-append, subst}
use Rattle.std.specs.Prelude.{slice_get, unwrap_or, IfSome}
use Rattle.std.proofs.lemmas.Bool.{cases_lt}
use Rattle.std.proofs.lemmas.Option.{slice_get-get_or}
use Rattle.list_laws.proofs.Tests.{either, clash}
use Rattle.split_tree.specs.Keys.{Key, same_key}
use Rattle.split_tree.specs.KeyLaws.{key_equal}
use Rattle.nogood_store.specs.Entries.{best, found, lesser}
use Rattle.nogood_store.specs.Places.{HasBest, entry_at}
use Rattle.nogood_store.specs.declared.store.Entry.{Entry}

-- an entry, if there is one, with at most a dead loss
abbrev pub bounded : Option Entry → ℕ → Option Entry
bounded None dead = None
bounded (Some entry) dead = cond (leb entry.dead dead) (Some entry) None

leb-false : (a b : ℕ) → leb a b ≡ false → b < a
leb-false a b e = elim (cases_lt b a) [
  | inl l ↦ l
  | inr l ↦ absurd (clash (leb a b) (le-leb a b l) e)
]

pub found-bounded : (entries : List Entry) (key : Key) (dead : ℕ) →
    found entries key dead ≡ bounded (best entries key) dead
found-bounded [] key dead = refl
found-bounded (e ∷ entries) key dead =
    go (same_key key e.key) (leb e.dead dead) refl (best entries key)
    (found-bounded entries key dead)
  where
    go : (same low : Bool) → leb e.dead dead ≡ low → (r : Option Entry) →
        found entries key dead ≡ bounded r dead →
        cond (same && low) (lesser e (found entries key dead)) (found entries key dead)
        ≡ bounded (cond same (lesser e r) r) dead
    go false low l r ih = ih
    go true true l None ih = rw (ih, l) refl
    go true true l (Some f) ih = rw ih (elim (either (leb e.dead f.dead)) [
      | inl less ↦ rw less (elim (either (leb f.dead dead)) [
        | inl k ↦ rw (k, less, l) refl
        | inr k ↦ rw (k, l) refl
      ])
      | inr more ↦ (let above : f.dead < e.dead = leb-false e.dead f.dead more in
          let most : e.dead ≤ dead = leb-true e.dead dead l in
          let k : leb f.dead dead ≡ true = le-leb f.dead dead (omega arith) in
          rw (more, k, more) refl)
    ])
    go true false l None ih = rw (ih, l) refl
    go true false l (Some f) ih = rw ih (elim (either (leb e.dead f.dead)) [
      | inl less ↦ (let above : dead < e.dead = leb-false e.dead dead l in
          let most : e.dead ≤ f.dead = leb-true e.dead f.dead less in
          rw (less, l) (elim (either (leb f.dead dead)) [
            | inl k ↦ absurd (let low : f.dead ≤ dead = leb-true f.dead dead k in omega arith)
            | inr k ↦ rw k refl
          ]))
      | inr more ↦ rw more refl
    ])

-- with one more entry of the key
abbrev pub better : Option Entry → Entry → Option Entry
better None e = Some e
better (Some f) e = Some (cond (leb f.dead e.dead) f e)

best-more : (entries : List Entry) (e : Entry) (key : Key) → best (entries ++ e ∷ []) key
    ≡ cond (same_key key e.key) (better (best entries key) e) (best entries key)
best-more [] e key = refl
best-more (x ∷ entries) e key =
    go (same_key key x.key) (same_key key e.key) (best entries key) (best-more entries e key)
  where
    both : (r : Option Entry) → lesser x (better r e) ≡ better (lesser x r) e
    both None = refl
    both (Some f) = elim (either (leb f.dead e.dead)) [
      | inl a ↦ rw a (elim (either (leb x.dead f.dead)) [
        | inl b ↦ (let low : x.dead ≤ e.dead =
            (let p : x.dead ≤ f.dead = leb-true x.dead f.dead b in
            let q : f.dead ≤ e.dead = leb-true f.dead e.dead a in omega arith) in
            rw (b, le-leb x.dead e.dead low) refl)
        | inr b ↦ rw (b, a) refl
      ])
      | inr a ↦ rw a (elim (either (leb x.dead f.dead)) [
        | inl b ↦ rw b refl
        | inr b ↦ (elim (either (leb x.dead e.dead)) [
          | inl c ↦ absurd (let p : x.dead ≤ e.dead = leb-true x.dead e.dead c in
              let q : f.dead < x.dead = leb-false x.dead f.dead b in
              let s : e.dead < f.dead = leb-false f.dead e.dead a in omega arith)
          | inr c ↦ rw (b, a, c) refl
        ])
      ])
    ]

    go : (s t : Bool) (r : Option Entry) → best (entries ++ e ∷ []) key ≡ cond t (better r e) r →
        cond s (lesser x (best (entries ++ e ∷ []) key)) (best (entries ++ e ∷ []) key)
        ≡ cond t (better (cond s (lesser x r) r) e) (cond s (lesser x r) r)
    go true true r ih = rw ih (both r)
    go true false r ih = rw ih refl
    go false true r ih = ih
    go false false r ih = ih

best-same : (entries : List Entry) (a b : Key) → same_key a b ≡ true →
    best entries a ≡ best entries b
best-same [] a b e = refl
best-same (x ∷ entries) a b e =
    ap₂ (λ s r. cond s (lesser x r) r) (key_equal.congr a b x.key e) (best-same entries a b e)

got-front : (entries : List Entry) (e : Entry) (place : ℕ) → place < length entries →
    slice_get (entries ++ e ∷ []) place ≡ slice_get entries place
got-front [] e place l = absurd (omega arith)
got-front (x ∷ entries) e zero l = refl
got-front (x ∷ entries) e (suc place) l = got-front entries e place (omega arith)

got-last : (entries : List Entry) (e : Entry) →
    slice_get (entries ++ e ∷ []) (length entries) ≡ Some e
got-last [] e = refl
got-last (x ∷ entries) e = got-last entries e

-- An entry is noted. Where one is found for its key and its dead loss, the key keeps the place of
-- that one; else it has the place behind the last entry.
module _ (place_of : Key → Option ℕ) (entries : List Entry) (is : HasBest place_of entries)
    (e : Entry) (there : Option ℕ) (at : entry_at entries there ≡ found entries e.key e.dead)
    (low : IfSome there (λ place. place < length entries)) where
  abbrev place : ℕ
  place = unwrap_or there (length entries)

  stays : (key : Key) → entry_at (entries ++ e ∷ []) (place_of key) ≡ best entries key
  stays key = go (place_of key) refl ∙ is.best key
    where
      go : (r : Option ℕ) → place_of key ≡ r → entry_at (entries ++ e ∷ []) r ≡ entry_at entries r
      go None q = refl
      go (Some at) q = got-front entries e at (is.within key at q)

  is-best : slice_get (entries ++ e ∷ []) place ≡ better (best entries e.key) e
  is-best = go there (at ∙ found-bounded entries e.key e.dead) low
    where
      behind : (r : Option Entry) → None ≡ bounded r e.dead → better r e ≡ Some e
      behind None q = refl
      behind (Some g) q = elim (either (leb g.dead e.dead)) [
        | inl l ↦ absurd (none-some (q ∙ rw l refl))
        | inr l ↦ rw l refl
      ]
        where
          none-some : None ≡ Some g → ⊥
          none-some q = cc

      before : (r : Option Entry) (f : Entry) → Some f ≡ bounded r e.dead → better r e ≡ Some f
      before None f q = absurd (some-none q)
        where
          some-none : Some f ≡ None → ⊥
          some-none q = cc
      before (Some g) f q = elim (either (leb g.dead e.dead)) [
        | inl l ↦ rw l (sym (q ∙ rw l refl))
        | inr l ↦ absurd (some-none (q ∙ rw l refl))
      ]
        where
          some-none : Some f ≡ None → ⊥
          some-none q = cc

      go : (r : Option ℕ) → entry_at entries r ≡ bounded (best entries e.key) e.dead →
          IfSome r (λ place. place < length entries) →
          slice_get (entries ++ e ∷ []) (unwrap_or r (length entries))
          ≡ better (best entries e.key) e
      go None q l = got-last entries e ∙ sym (behind (best entries e.key) q)
      go (Some old) q l =
          let is : slice_get entries old ≡ Some (get_or entries old e) =
          slice_get-get_or entries old e l in
          got-front entries e old l ∙ is
          ∙ sym (before (best entries e.key) (get_or entries old e) (sym is ∙ q))

  pub noted : (more : Key → Option ℕ) →
      ((key : Key) → more key ≡ cond (same_key e.key key) (Some place) (place_of key)) →
      HasBest more (entries ++ e ∷ [])
  noted more updates = record { best = all; within = below }
    where
      turned : (key : Key) → more key ≡ cond (same_key key e.key) (Some place) (place_of key)
      turned key =
          updates key ∙ ap (λ b. cond b (Some place) (place_of key)) (key_equal.symm e.key key)

      all : (key : Key) → entry_at (entries ++ e ∷ []) (more key) ≡ best (entries ++ e ∷ []) key
      all key =
          ap (entry_at (entries ++ e ∷ [])) (turned key)
          ∙ elim (either (same_key key e.key)) [
            | inl s ↦ rw s (is-best ∙ sym (best-more entries e key
                ∙ rw s (ap (λ r. better r e) (best-same entries key e.key s))))
            | inr s ↦ rw s (stays key ∙ sym (best-more entries e key ∙ rw s refl))
          ]

      longer : length (entries ++ e ∷ []) ≡ length entries + 1
      longer = length-append entries (e ∷ [])

      placed : place < length (entries ++ e ∷ [])
      placed = go there low
        where
          go : (r : Option ℕ) → IfSome r (λ place. place < length entries) →
              unwrap_or r (length entries) < length (entries ++ e ∷ [])
          go None l = let n = longer in omega arith
          go (Some old) l = let n = longer in omega arith

      below : (key : Key) (at : ℕ) → more key ≡ Some at → at < length (entries ++ e ∷ [])
      below key at q = go (same_key key e.key) (sym (turned key) ∙ q)
        where
          go : (b : Bool) → cond b (Some place) (place_of key) ≡ Some at →
              at < length (entries ++ e ∷ [])
          go true k = subst (λ n. n < length (entries ++ e ∷ [])) (some-same k) placed
            where
              some-same : Some place ≡ Some at → place ≡ at
              some-same k = cc
          go false k =
              let l : at < length entries = is.within key at k in
              let n = longer in
              omega arith

-- The place of the best entry is that of the one that is found, or its dead loss is too high.
module _ (place_of : Key → Option ℕ) (entries : List Entry) (is : HasBest place_of entries)
    (key : Key) (dead : ℕ) where
  best-bounded : bounded (entry_at entries (place_of key)) dead ≡ found entries key dead
  best-bounded =
      ap (λ r. bounded r dead) (is.best key) ∙ sym (found-bounded entries key dead)

  pub none-there : None ≡ place_of key → None ≡ found entries key dead
  none-there q = ap (λ r. bounded (entry_at entries r) dead) q ∙ best-bounded

  pub one-there : (f : Entry) → entry_at entries (place_of key) ≡ Some f → f.dead ≤ dead →
      Some f ≡ found entries key dead
  one-there f q l =
      sym (ap (λ b. cond b (Some f) None) (le-leb f.dead dead l))
      ∙ ap (λ r. bounded r dead) (sym q) ∙ best-bounded

  pub one-above : (f : Entry) → entry_at entries (place_of key) ≡ Some f → dead < f.dead →
      None ≡ found entries key dead
  one-above f q l = above (leb f.dead dead) refl ∙ ap (λ r. bounded r dead) (sym q) ∙ best-bounded
    where
      above : (b : Bool) → leb f.dead dead ≡ b → None ≡ cond b (Some f) None
      above true t = absurd (let low : f.dead ≤ dead = leb-true f.dead dead t in omega arith)
      above false t = refl
