-- The lines of a text have one answer: what an answer says of them is said by no other.
use Rattle.std.proofs.Common.{ℕ, ◌+◌, ◌^◌, ◌<◌, ◌≤◌, ◌≡◌, ◌≢◌, ◌⊎◌, inl, inr, true, false, List, []}
use Rattle.std.proofs.Common.{◌∷◌, ◌++◌, map, length, All, ℤ, pos, negsuc, cond, Option, Some, None}
use Rattle.std.proofs.Common.{Result, Ok, Err, eqb, leb, ltb, refl, sym, ap, ap₂, ◌∙◌, subst, arith}
use Rattle.std.proofs.Common.{leb-true, ne_eqb, eq-eqb, append_assoc, get_or}
use Rattle.std.proofs.lemmas.Bool.{and_parts, both_ways}
use Rattle.std.proofs.lemmas.Fmt.{decimal_injective, signed_decimal_injective}
use Rattle.std.proofs.lemmas.Int.{ints}
use Rattle.std.proofs.lemmas.List.{append-nil}
use Rattle.std.proofs.lemmas.List.Elements.{All-head, All-tail}
use Rattle.std.specs.List.{list_all}
use lib.Signed.{mag}
use Rattle.std.specs.Fmt.{decimal, signed_decimal}
use Rattle.line_text.specs.Lines.{is_end, first_filled}
use Rattle.line_text.specs.Words.{line_words, BeginsWith}
use Rattle.line_text.specs.Numbers.{ordinals, signed_numbers, IsWithin}
use Rattle.line_text.proofs.Plain.{ordinals-injective}
use Rattle.mill_model.specs.Log.{recorded}
use Rattle.mill_model.specs.declared.closing.Entry.{Entry}
use Rattle.mill_model.specs.declared.closing.Closing.{Closing}
use Rattle.mill_model.specs.declared.closing.Closing.TheVariants.{Split, Leaf, Priced, Dominated}
use Rattle.refute_log.specs.Rising.{rises}
use Rattle.refute_log.specs.Fits.{path_fits, price_fits, closing_fits, fits}
use Rattle.refute_log.specs.Logged.{Logged}
use Rattle.refute_log.specs.Text.{letter_of, closing_words, record_words, record_line, first_words}
use Rattle.refute_log.specs.Text.{first_line, BeginsLog}
use Rattle.refute_log.specs.Judged.{Says, ComesWhere}
use Rattle.refute_log.specs.declared.error.LogTextError.{LogTextError}
use Rattle.refute_log.specs.declared.error.LogTextError.TheVariants.{BadLine, NotRising}
use Rattle.refute_log.specs.declared.error.LogTextError.TheVariants.{CountDiffers, OutOfMemory}
use Rattle.refute_log.proofs.RecordLines.{path-numbers, price-numbers, words-record}
use Rattle.refute_log.proofs.RecordLines.{words-first_line, record-is_no_end}
use Rattle.refute_log.proofs.Reading.{spelled, same-front, length-ordinals}
use Rattle.refute_log.proofs.Rises.{rises-front}
use Rattle.mill_model.proofs.Records.{recorded-append}
use Rattle.mill_model.specs.declared.limits.TheConstants.{MAX_NODES}

mag-small : (x : ℤ) → IsWithin 20000000000 x → mag x < 2 ^ 63
mag-small (pos n) w = omega (arith, ints)
mag-small (negsuc n) w = omega (arith, ints)

prices-same : (xs ys : List ℤ) → All (IsWithin 20000000000) xs → All (IsWithin 20000000000) ys
    → signed_numbers xs ≡ signed_numbers ys → xs ≡ ys
prices-same [] [] a b e = refl
prices-same [] (y ∷ ys) a b e = absurd (omega (arith, ap length e))
prices-same (x ∷ xs) [] a b e = absurd (omega (arith, ap length e))
prices-same (x ∷ xs) (y ∷ ys) a b e =
    let k : IsWithin 20000000000 x = All-head (IsWithin 20000000000) x xs a in
    let l : IsWithin 20000000000 y = All-head (IsWithin 20000000000) y ys b in
    let h : signed_decimal x ≡ signed_decimal y = cc in
    let t : signed_numbers xs ≡ signed_numbers ys = cc in
    ap₂ (λ z zs. z ∷ zs) (one x y k l h) (prices-same xs ys
    (All-tail (IsWithin 20000000000) x xs a) (All-tail (IsWithin 20000000000) y ys b) t)
  where
    one : (x y : ℤ) → IsWithin 20000000000 x → IsWithin 20000000000 y
        → signed_decimal x ≡ signed_decimal y → x ≡ y
    one x y k l h = signed_decimal_injective x y (mag-small x k) (mag-small y l) h

-- what closes a path is told by its letter and its words
closing-same : (n depth : ℕ) (c d : Closing) → n < 2 ^ 16 → closing_fits n depth c ≡ true
    → closing_fits n depth d ≡ true → letter_of c ≡ letter_of d
    → closing_words c ≡ closing_words d → c ≡ d
closing-same n depth Split Split small f g k w = refl
closing-same n depth Leaf Leaf small f g k w = refl
closing-same n depth (Priced xs) (Priced ys) small f g k w =
    let p = and_parts (eqb (depth + length xs) n) (list_all price_fits xs) f in
    let q = and_parts (eqb (depth + length ys) n) (list_all price_fits ys) g in
    ap (λ zs. Priced zs) (prices-same xs ys (price-numbers xs p.1) (price-numbers ys q.1) w)
closing-same n depth (Dominated xs) (Dominated ys) small f g k w =
    let p = and_parts (path_fits n xs) (eqb (length xs) depth) f in
    let q = and_parts (path_fits n ys) (eqb (length ys) depth) g in
    let r = and_parts (leb (length xs) n) (list_all (λ g. ltb g n) xs) p.0 in
    let s = and_parts (leb (length ys) n) (list_all (λ g. ltb g n) ys) q.0 in
    ap (λ zs. Dominated zs)
    (ordinals-injective n xs ys (omega arith) (path-numbers n xs r.1) (path-numbers n ys s.1) w)
closing-same n depth c d small f g k w = absurd (omega (arith, ap (λ l. get_or l 0 0) k))

-- records with one line are the same
record-same : (n : ℕ) (e f : Entry) → n < 2 ^ 16 → fits n e ≡ true → fits n f ≡ true
    → record_line e ≡ record_line f → e ≡ f
record-same n e f small h k l =
    let a = and_parts (path_fits n e.path) (closing_fits n (length e.path) e.closing) h in
    let b = and_parts (path_fits n f.path) (closing_fits n (length f.path) f.closing) k in
    let p = and_parts (leb (length e.path) n) (list_all (λ g. ltb g n) e.path) a.0 in
    let q = and_parts (leb (length f.path) n) (list_all (λ g. ltb g n) f.path) b.0 in
    let w : record_words e ≡ record_words f =
    sym (words-record n e (omega arith) h) ∙ ap line_words l ∙ words-record n f (omega arith) k in
    let s = spelled n (letter_of e.closing) (length e.path)
    (ordinals e.path ++ closing_words e.closing) f small
    (leb-true (length e.path) n p.0) k w in
    let t = same-front (ordinals e.path) (ordinals f.path) (closing_words e.closing)
    (closing_words f.closing) s.words
    (omega (arith, length-ordinals e.path, length-ordinals f.path, s.long)) in
    let path : e.path ≡ f.path =
    ordinals-injective n e.path f.path (omega arith) (path-numbers n e.path p.1)
    (path-numbers n f.path q.1)
    t.0 in
    let c : closing_fits n (length e.path) f.closing ≡ true = rw (sym s.long) at b.1 in
    let closing : e.closing ≡ f.closing =
    closing-same n (length e.path) e.closing f.closing small a.1 c s.kind t.1 in
    ap₂ (λ x y. record { path = x; closing = y }) path closing

-- first lines that state other numbers are different
first-same : (m n : ℕ) → m < 2 ^ 64 → n < 2 ^ 64 → first_line m ≡ first_line n → m ≡ n
first-same m n k l e =
    let w : first_words m ≡ first_words n =
    sym (words-first_line m k) ∙ ap line_words e ∙ words-first_line n l in
    let d : decimal m ≡ decimal n = cc in
    decimal_injective m n k l d

-- no further record that rises stands next
abbrev pub Stops : ℕ → List Entry → List (List ℕ) → Type 0
Stops orders entries rest = (entry : Entry) → fits orders entry ≡ true
    → rises (recorded (entries ++ entry ∷ [])) ≡ true → ¬ (BeginsWith rest (record_line entry ∷ []))

parts : (x y : List ℕ) (xs ys : List (List ℕ)) → x ∷ xs ≡ y ∷ ys → (x ≡ y) × (xs ≡ ys)
parts x y xs ys e = (cc, cc)

-- records with one more of a longer list behind them
one-more : (done : List Entry) (e : Entry) (es : List Entry)
    → recorded (done ++ e ∷ es) ≡ recorded ((done ++ e ∷ []) ++ es)
one-more done e es = ap recorded (sym (append_assoc done (e ∷ []) es))

-- where records stop, no longer ones stand there
goes_on : (orders : ℕ) (done : List Entry) (e : Entry) (es : List Entry) (us vs : List (List ℕ))
    → us ≡ map record_line (e ∷ es) ++ vs → list_all (fits orders) (e ∷ es) ≡ true
    → rises (recorded (done ++ e ∷ es)) ≡ true → Stops orders done us → ⊥
goes_on orders done e es us vs is fit rise stops =
    let p = and_parts (fits orders e) (list_all (fits orders) es) fit in
    let r : rises (recorded (done ++ e ∷ []) ++ recorded es) ≡ true =
    ap rises (sym (one-more done e es ∙ recorded-append (done ++ e ∷ []) es)) ∙ rise in
    stops e p.0 (rises-front (recorded (done ++ e ∷ [])) (recorded es) r)
    (record { more = map record_line es ++ vs; is = is })

-- a beginning that nothing goes on is the only one
same-records : (orders : ℕ) (done es fs : List Entry) (us vs : List (List ℕ)) → orders < 2 ^ 16
    → map record_line es ++ us ≡ map record_line fs ++ vs
    → list_all (fits orders) es ≡ true → list_all (fits orders) fs ≡ true
    → rises (recorded (done ++ es)) ≡ true → rises (recorded (done ++ fs)) ≡ true
    → Stops orders (done ++ es) us → Stops orders (done ++ fs) vs → (es ≡ fs) × (us ≡ vs)
same-records orders done [] [] us vs small is a b r s x y = (refl, is)
same-records orders done [] (f ∷ fs) us vs small is a b r s x y =
    absurd (goes_on orders done f fs us vs is b s
    (subst (λ ds. Stops orders ds us) (append-nil done) x))
same-records orders done (e ∷ es) [] us vs small is a b r s x y =
    absurd (goes_on orders done e es vs us (sym is) a r
    (subst (λ ds. Stops orders ds vs) (append-nil done) y))
same-records orders done (e ∷ es) (f ∷ fs) us vs small is a b r s x y =
    let p = and_parts (fits orders e) (list_all (fits orders) es) a in
    let q = and_parts (fits orders f) (list_all (fits orders) fs) b in
    let heads = parts (record_line e) (record_line f) (map record_line es ++ us)
    (map record_line fs ++ vs) is in
    let same : e ≡ f = record-same orders e f small p.0 q.0 heads.0 in
    let t : rises (recorded (done ++ e ∷ fs)) ≡ true =
    subst (λ z. rises (recorded (done ++ z ∷ fs)) ≡ true) (sym same) s in
    let z : Stops orders (done ++ e ∷ fs) vs =
    subst (λ z. Stops orders (done ++ z ∷ fs) vs) (sym same) y in
    let ih = same-records orders (done ++ e ∷ []) es fs us vs small heads.1 p.1 q.1
    (ap rises (sym (one-more done e es)) ∙ r) (ap rises (sym (one-more done e fs)) ∙ t)
    (subst (λ ds. Stops orders ds us) (sym (append_assoc done (e ∷ []) es)) x)
    (subst (λ ds. Stops orders ds vs) (sym (append_assoc done (e ∷ []) fs)) z) in
    (ap₂ (λ w ws. w ∷ ws) same ih.0, ih.1)

-- what an answer says is made of what stands behind the right records

record Lacks (orders first : ℕ) (entries : List Entry) (rest : List (List ℕ))
    (answer : Result Logged LogTextError) : Type 0 where
  no_record : (entry : Entry) → fits orders entry ≡ true
      → ¬ (BeginsWith rest (record_line entry ∷ []))
  no_end : (end_line : List ℕ) → is_end end_line ≡ true → ¬ (BeginsWith rest (end_line ∷ []))
  is : answer ≡ Err (BadLine (first + length entries + 1))

record Falls (orders first : ℕ) (entries : List Entry) (rest : List (List ℕ))
    (answer : Result Logged LogTextError) : Type 0 where
  entry : Entry
  more : List (List ℕ)
  next : rest ≡ record_line entry ∷ more
  fit : fits orders entry ≡ true
  falls : rises (recorded (entries ++ entry ∷ [])) ≡ false
  is : answer ≡ Err (NotRising (first + length entries + 1))

-- the answer where `end` is read
abbrev end_answer : ℕ → ℕ → ℕ → List Entry → Option ℕ → Result Logged LogTextError
end_answer orders first stated entries (Some behind) =
    Err (BadLine (first + length entries + 2 + behind))
end_answer orders first stated entries None =
    cond (eqb stated (length entries)) (Ok (record { orders = orders; entries = entries }))
    (Err (CountDiffers stated (length entries)))

record Ends (orders first stated : ℕ) (entries : List Entry) (rest : List (List ℕ))
    (answer : Result Logged LogTextError) : Type 0 where
  end_line : List ℕ
  after : List (List ℕ)
  next : rest ≡ end_line ∷ after
  ended : is_end end_line ≡ true
  is : answer ≡ end_answer orders first stated entries (first_filled after)

data RestSays (orders first stated : ℕ) (entries : List Entry) (rest : List (List ℕ))
    (answer : Result Logged LogTextError) : Type 0 where
  lacks : Lacks orders first entries rest answer
      → RestSays orders first stated entries rest answer
  falls : Falls orders first entries rest answer
      → RestSays orders first stated entries rest answer
  ends : Ends orders first stated entries rest answer
      → RestSays orders first stated entries rest answer

record Placed (orders first : ℕ) (lines : List (List ℕ)) (answer : Result Logged LogTextError)
    : Type 0 where
  stated : ℕ
  entries : List Entry
  rest : List (List ℕ)
  begins : BeginsLog orders stated entries lines rest
  says : RestSays orders first stated entries rest answer

-- a record's line is not another's, and not `end`
stops : (orders first stated : ℕ) (entries : List Entry) (rest : List (List ℕ))
    (answer : Result Logged LogTextError) → orders < 2 ^ 16
    → RestSays orders first stated entries rest answer → Stops orders entries rest
stops orders first stated entries rest answer small (lacks l) entry fit rise b =
    l.no_record entry fit b
stops orders first stated entries rest answer small (falls f) entry fit rise b =
    let heads = parts (record_line entry) (record_line f.entry) b.more f.more (sym b.is ∙ f.next) in
    let same : entry ≡ f.entry = record-same orders entry f.entry small fit f.fit heads.0 in
    let r : rises (recorded (entries ++ f.entry ∷ [])) ≡ true =
    subst (λ e. rises (recorded (entries ++ e ∷ [])) ≡ true) same rise in
    both_ways (rises (recorded (entries ++ f.entry ∷ []))) f.falls r
stops orders first stated entries rest answer small (ends e) entry fit rise b =
    let heads = parts (record_line entry) e.end_line b.more e.after (sym b.is ∙ e.next) in
    let t : is_end (record_line entry) ≡ true =
    subst (λ l. is_end l ≡ true) (sym heads.0) e.ended in
    both_ways (is_end (record_line entry)) (record-is_no_end entry) t

end-falls : (orders first stated : ℕ) (entries : List Entry) (rest : List (List ℕ))
    (a b : Result Logged LogTextError) → Falls orders first entries rest a
    → Ends orders first stated entries rest b → ⊥
end-falls orders first stated entries rest a b x y =
    let heads = parts (record_line x.entry) y.end_line x.more y.after (sym x.next ∙ y.next) in
    let t : is_end (record_line x.entry) ≡ true =
    subst (λ l. is_end l ≡ true) (sym heads.0) y.ended in
    both_ways (is_end (record_line x.entry)) (record-is_no_end x.entry) t

-- what stands behind right records makes one answer
rest-same : (orders first stated : ℕ) (entries : List Entry) (rest : List (List ℕ))
    (a b : Result Logged LogTextError) → RestSays orders first stated entries rest a
    → RestSays orders first stated entries rest b → a ≡ b
rest-same orders first stated entries rest a b (lacks x) (lacks y) = x.is ∙ sym y.is
rest-same orders first stated entries rest a b (falls x) (falls y) = x.is ∙ sym y.is
rest-same orders first stated entries rest a b (ends x) (ends y) =
    let heads = parts x.end_line y.end_line x.after y.after (sym x.next ∙ y.next) in
    x.is ∙ ap (λ l. end_answer orders first stated entries (first_filled l)) heads.1 ∙ sym y.is
rest-same orders first stated entries rest a b (lacks x) (falls y) =
    absurd (x.no_record y.entry y.fit (record { more = y.more; is = y.next }))
rest-same orders first stated entries rest a b (falls y) (lacks x) =
    absurd (x.no_record y.entry y.fit (record { more = y.more; is = y.next }))
rest-same orders first stated entries rest a b (lacks x) (ends y) =
    absurd (x.no_end y.end_line y.ended (record { more = y.after; is = y.next }))
rest-same orders first stated entries rest a b (ends y) (lacks x) =
    absurd (x.no_end y.end_line y.ended (record { more = y.after; is = y.next }))
rest-same orders first stated entries rest a b (falls x) (ends y) =
    absurd (end-falls orders first stated entries rest a b x y)
rest-same orders first stated entries rest a b (ends y) (falls x) =
    absurd (end-falls orders first stated entries rest b a x y)

-- what an answer says, but for want of memory, is that no first line stands there, or what stands
-- behind the records
data Place (orders first : ℕ) (lines : List (List ℕ)) (answer : Result Logged LogTextError)
    : Type 0 where
  nowhere : ((stated : ℕ) → stated ≤ MAX_NODES → ¬ (BeginsWith lines (first_line stated ∷ [])))
      → answer ≡ Err (BadLine first) → Place orders first lines answer
  behind : Placed orders first lines answer → Place orders first lines answer

place-of : (orders first : ℕ) (lines : List (List ℕ)) (answer : Result Logged LogTextError)
    → answer ≢ Err OutOfMemory → Says orders first lines answer → Place orders first lines answer
place-of orders first lines (Ok log) memory (o, t) = behind (record {
  stated = length log.entries;
  entries = log.entries;
  rest = t.end_line ∷ t.after;
  begins =
      subst (λ n. BeginsLog n (length log.entries) log.entries lines (t.end_line ∷ t.after)) o
      t.begins;
  says = ends (record {
    end_line = t.end_line;
    after = t.after;
    next = refl;
    ended = t.ended;
    is = whole t.blank;
  });
})
  where
    whole : first_filled t.after ≡ None
        → Ok log ≡ end_answer orders first (length log.entries) log.entries (first_filled t.after)
    whole blank =
        let c : eqb (length log.entries) (length log.entries) ≡ true =
        eq-eqb (length log.entries) (length log.entries) refl in
        rw (blank, c) (ap (λ n. Ok (record { orders = n; entries = log.entries })) o)
place-of orders first lines (Err (BadLine line)) memory (inl x) =
    nowhere x.no_first_line (ap (λ l. Err (BadLine l)) x.place)
place-of orders first lines (Err (BadLine line)) memory (inr (inl x)) = behind (record {
  stated = x.stated;
  entries = x.entries;
  rest = x.rest;
  begins = x.begins;
  says = lacks (record {
    no_record = x.no_record;
    no_end = x.no_end;
    is = ap (λ l. Err (BadLine l)) x.place;
  });
})
place-of orders first lines (Err (BadLine line)) memory (inr (inr x)) = behind (record {
  stated = x.stated;
  entries = x.entries;
  rest = x.end_line ∷ x.after;
  begins = x.begins;
  says = ends (record {
    end_line = x.end_line;
    after = x.after;
    next = refl;
    ended = x.ended;
    is = rw x.filled (ap (λ l. Err (BadLine l)) x.place);
  });
})
place-of orders first lines (Err (NotRising line)) memory x = behind (record {
  stated = x.stated;
  entries = x.entries;
  rest = record_line x.entry ∷ x.rest;
  begins = x.begins;
  says = falls (record {
    entry = x.entry;
    more = x.rest;
    next = refl;
    fit = x.fit;
    falls = x.falls;
    is = ap (λ l. Err (NotRising l)) x.place;
  });
})
place-of orders first lines (Err (CountDiffers stated found)) memory x = behind (record {
  stated = stated;
  entries = x.entries;
  rest = x.end_line ∷ x.after;
  begins = x.begins;
  says = ends (record {
    end_line = x.end_line;
    after = x.after;
    next = refl;
    ended = x.ended;
    is = other;
  });
})
  where
    other : Err (CountDiffers stated found)
        ≡ end_answer orders first stated x.entries (first_filled x.after)
    other =
        let d : eqb stated (length x.entries) ≡ false =
        ne_eqb stated (length x.entries) (λ e. x.other (e ∙ sym x.count)) in
        rw (x.blank, d) (ap (λ n. Err (CountDiffers stated n)) x.count)
place-of orders first lines (Err OutOfMemory) memory x = absurd (memory refl)

-- two answers that say something of the lines are one
pub answers-same : (orders first : ℕ) (lines : List (List ℕ)) (a b : Result Logged LogTextError)
    → orders < 2 ^ 16 → a ≢ Err OutOfMemory → b ≢ Err OutOfMemory → Says orders first lines a
    → Says orders first lines b → a ≡ b
answers-same orders first lines a b small m n x y =
    same (place-of orders first lines a m x) (place-of orders first lines b n y)
  where
    same : Place orders first lines a → Place orders first lines b → a ≡ b
    same (nowhere p e) (nowhere q f) = e ∙ sym f
    same (nowhere p e) (behind q) = absurd (p q.stated q.begins.few
        (record { more = map record_line q.entries ++ q.rest; is = q.begins.text }))
    same (behind p) (nowhere q f) = absurd (q p.stated p.begins.few
        (record { more = map record_line p.entries ++ p.rest; is = p.begins.text }))
    same (behind p) (behind q) =
        let heads = parts (first_line p.stated) (first_line q.stated)
        (map record_line p.entries ++ p.rest) (map record_line q.entries ++ q.rest)
        (sym p.begins.text ∙ q.begins.text) in
        let k = p.begins.few in let l = q.begins.few in
        let s : p.stated ≡ q.stated =
        first-same p.stated q.stated (omega arith) (omega arith) heads.0 in
        let r = same-records orders [] p.entries q.entries p.rest q.rest small heads.1
        p.begins.fit q.begins.fit p.begins.rise q.begins.rise
        (stops orders first p.stated p.entries p.rest a small p.says)
        (stops orders first q.stated q.entries q.rest b small q.says) in
        let t = subst (λ n. RestSays orders first n q.entries q.rest b) (sym s) q.says in
        let u = subst (λ es. RestSays orders first p.stated es q.rest b) (sym r.0) t in
        let v = subst (λ us. RestSays orders first p.stated p.entries us b) (sym r.1) u in
        rest-same orders first p.stated p.entries p.rest a b p.says v

-- an answer that says something of the lines comes exactly where that holds
pub comes-where : (orders first : ℕ) (lines : List (List ℕ))
    (result answer : Result Logged LogTextError)
    → orders < 2 ^ 16 → Says orders first lines result → answer ≢ Err OutOfMemory
    → ComesWhere result answer (Says orders first lines answer)
comes-where orders first lines result answer small says memory = record {
  only = λ e. subst (Says orders first lines) e says;
  always =
      λ fact. by_result result says (λ m n s. answers-same orders first lines result answer small m
      n s fact) memory;
}
  where
    by_result : (result : Result Logged LogTextError) → Says orders first lines result
        → (result ≢ Err OutOfMemory → answer ≢ Err OutOfMemory → Says orders first lines result
        → result ≡ answer)
        → answer ≢ Err OutOfMemory → (result ≡ answer) ⊎ (result ≡ Err OutOfMemory)
    by_result (Ok log) s same m = inl (same (λ e. cc) m s)
    by_result (Err (BadLine line)) s same m = inl (same (λ e. cc) m s)
    by_result (Err (NotRising line)) s same m = inl (same (λ e. cc) m s)
    by_result (Err (CountDiffers stated found)) s same m = inl (same (λ e. cc) m s)
    by_result (Err OutOfMemory) s same m = inr refl
