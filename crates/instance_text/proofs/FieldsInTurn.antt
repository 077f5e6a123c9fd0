-- Fields that are read one after another.
use Rattle.std.specs.Prelude.{Err}
use Rattle.std.proofs.Common.{◌≡◌, ℕ, suc, ◌+◌, List, [], ◌∷◌, ◌++◌, length, refl, ap, sym, ◌∙◌}
use Rattle.std.proofs.Common.{arith, append_assoc, length-append, subst}
use Rattle.std.proofs.lemmas.List.{map-append}
use Rattle.line_text.specs.Numbers.{value}
use Rattle.instance_text.specs.declared.field.Field.{Field}
use Rattle.instance_text.specs.declared.error.InstanceError.{InstanceError}
use Rattle.instance_text.specs.declared.error.InstanceError.TheVariants.{BadByte, Short, OutOfRange}
use Rattle.instance_text.specs.declared.error.InstanceError.TheVariants.{OutOfMemory}
use Rattle.instance_text.specs.declared.reader.Reader.{Reader}
use Rattle.instance_text.specs.Words.{Word, end_behind}
use Rattle.instance_text.specs.Fields.{judged, AreRight}
use Rattle.instance_text.specs.Reading.{Took, Stops, Fails, ahead, values}

-- words that are right, and then others
pub right_append : (fs gs : List Field) (us vs : List Word) → AreRight fs us → AreRight gs vs →
    AreRight (fs ++ gs) (us ++ vs)
right_append [] gs [] vs h k = k
right_append [] gs (u ∷ us) vs h k = absurd h
right_append (f ∷ fs) gs [] vs h k = absurd h
right_append (f ∷ fs) gs (u ∷ us) vs h k = (h.0, right_append fs gs us vs h.1 k)

-- as many words as fields are right
pub right_count : (fs : List Field) (us : List Word) → AreRight fs us → length us ≡ length fs
right_count [] [] h = refl
right_count [] (u ∷ us) h = absurd h
right_count (f ∷ fs) [] h = absurd h
right_count (f ∷ fs) (u ∷ us) h = ap suc (right_count fs us h.1)

end_behind-append : (at : ℕ) (us vs : List Word) →
    end_behind at (us ++ vs) ≡ end_behind (end_behind at us) vs
end_behind-append at [] vs = refl
end_behind-append at (u ∷ us) vs = end_behind-append (u.at + length u.bytes) us vs

-- what was read so far, and then more
pub took_append : (fs gs : List Field) (ns ms : List ℕ) (a b c : Reader) → Took fs ns a b →
    Took gs ms b c → Took (fs ++ gs) (ns ++ ms) a c
took_append fs gs ns ms a b c h k =
    record {
      used = h.used ++ k.used;
      split =
          h.split ∙ ap (λ r. h.used ++ r) k.split ∙ sym (append_assoc h.used k.used (ahead c));
      right = right_append fs gs h.used k.used h.right k.right;
      values_are =
          map-append (λ (w : Word). value w.bytes) h.used k.used
          ∙ ap (λ ns. ns ++ values k.used) h.values_are ∙ ap (λ ms. ns ++ ms) k.values_are;
      place =
          k.place ∙ ap (λ at. end_behind at k.used) h.place
          ∙ sym (end_behind-append a.at h.used k.used);
      tokens_are = omega (arith, h.tokens_are, k.tokens_are, length-append h.used k.used);
      same = k.same ∙ h.same;
    }

-- what stops the later fields stops all of them
stops_later : (fs gs : List Field) (ns : List ℕ) (a b : Reader) (why : InstanceError) →
    Took fs ns a b → Stops gs b why → Stops (fs ++ gs) a why
stops_later fs gs ns a b why h k =
    let token : suc (b.tokens + length k.front) ≡ suc (a.tokens + length (h.used ++ k.front)) =
    omega (arith, h.tokens_are, length-append h.used k.front) in
    record {
      front = h.used ++ k.front;
      others = k.others;
      split =
          h.split ∙ ap (λ r. h.used ++ r) k.split ∙ sym (append_assoc h.used k.front k.others);
      met = fs ++ k.met;
      what = k.what;
      more = k.more;
      announced =
          ap (λ gs. fs ++ gs) k.announced ∙ sym (append_assoc fs k.met (k.what ∷ k.more));
      right = right_append fs k.met h.used k.front h.right k.right;
      wrong = ap (λ token. judged k.what token k.others) (sym token) ∙ k.wrong;
    }

-- what stops the first fields stops all of them
stops_front : (fs gs : List Field) (a : Reader) (why : InstanceError) → Stops fs a why →
    Stops (fs ++ gs) a why
stops_front fs gs a why h =
    record {
      front = h.front;
      others = h.others;
      split = h.split;
      met = h.met;
      what = h.what;
      more = h.more ++ gs;
      announced = ap (λ fs. fs ++ gs) h.announced ∙ append_assoc h.met (h.what ∷ h.more) gs;
      right = h.right;
      wrong = h.wrong;
    }

-- a cause that holds whatever is wrong with the text
pub fails_map : (fs gs : List Field) (a b : Reader) (why : InstanceError) →
    ((why : InstanceError) → Stops fs a why → Stops gs b why) → Fails fs a why → Fails gs b why
fails_map fs gs a b (BadByte at) step h = step (BadByte at) h
fails_map fs gs a b (Short token) step h = step (Short token) h
fails_map fs gs a b (OutOfRange what token) step h = step (OutOfRange what token) h
fails_map fs gs a b OutOfMemory step h = tt

pub fails_later : (fs gs : List Field) (ns : List ℕ) (a b : Reader) (why : InstanceError) →
    Took fs ns a b → Fails gs b why → Fails (fs ++ gs) a why
fails_later fs gs ns a b why h =
    fails_map gs (fs ++ gs) b a why (λ why. stops_later fs gs ns a b why h)

pub fails_front : (fs gs : List Field) (a : Reader) (why : InstanceError) → Fails fs a why →
    Fails (fs ++ gs) a why
fails_front fs gs a why = fails_map fs (fs ++ gs) a a why (stops_front fs gs a)

-- the next word is wrong
pub fails_next : (what : Field) (a : Reader) (why : InstanceError) →
    judged what (suc a.tokens) (ahead a) ≡ Err why → Fails (what ∷ []) a why
fails_next what a why h = by_error why (record {
  front = [];
  others = ahead a;
  split = refl;
  met = [];
  what = what;
  more = [];
  announced = refl;
  right = tt;
  wrong = ap (λ token. judged what token (ahead a)) (omega arith) ∙ h;
})
  where
    by_error : (why : InstanceError) → Stops (what ∷ []) a why → Fails (what ∷ []) a why
    by_error (BadByte at) h = h
    by_error (Short token) h = h
    by_error (OutOfRange what token) h = h
    by_error OutOfMemory h = tt

-- some fields, and then more, are these
pub took_on : (fs gs all : List Field) (ns ms : List ℕ) (a b c : Reader) → fs ++ gs ≡ all →
    Took fs ns a b → Took gs ms b c → Took all (ns ++ ms) a c
took_on fs gs all ns ms a b c e h k =
    let P : List Field → Type 0 = λ fs. Took fs (ns ++ ms) a c in
    subst P e (took_append fs gs ns ms a b c h k)

-- what stops the second of three parts of these fields stops them
pub fails_on : (fs gs rest all : List Field) (ns : List ℕ) (a b : Reader) (why : InstanceError) →
    (fs ++ gs) ++ rest ≡ all → Took fs ns a b → Fails gs b why → Fails all a why
fails_on fs gs rest all ns a b why e h k =
    let P : List Field → Type 0 = λ fs. Fails fs a why in
    subst P e (fails_front (fs ++ gs) rest a why (fails_later fs gs ns a b why h k))
