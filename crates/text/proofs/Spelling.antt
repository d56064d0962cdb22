-- A list has one spelling: the bytes of an accepted list are the writer's text of the schedule that reading gives.
-- Assumes nothing.
use mathlib.Core.Path.{◌≡◌, refl, sym, ap, ◌∙◌}
use mathlib.Core.Bool.{true, cond}
use mathlib.Core.List.{List, [], ◌∷◌, ◌++◌, append_assoc, append-nil}
use Prim.Native.Nat.{ℕ, ◌+◌, ◌*◌, ◌-◌, ◌/◌, ◌%◌, ◌≤◌, ◌<◌}
use native.Mathlib.Nat.{add-sub_cancel_left, pos_of_ne-zero}
use native.Mathlib.Omega.{arith}
use lib.ListN.{length}
use lib.Dec.{ltb, leb, eqb}
use borrow.Author.Tests.{ltb-true, ltb-false, leb-true, eqb-true, eqb-false, ne_eqb}
use Rattle.std.specs.Prelude.{Some, None}
use Rattle.schedule.specs.declared.Sign.{Sign}
use Rattle.schedule.specs.declared.Sign.TheVariants.{Positive, Negative}
use Rattle.text.specs.declared.Mark.TheVariants.{Leaps, Expires}
use Rattle.schedule.specs.declared.Leap.{Leap}
use Rattle.schedule.specs.Schedule.{Schedule, month_start, blank_schedule}
use Rattle.calendar.proofs.Laws.{month_of_start}
use Rattle.schedule.specs.Answers.{Reading, refusal, accepted, with_leap}
use Rattle.schedule.proofs.Cases.{by_bool, by_cond}
use Rattle.text.specs.Bytes.{is_digit, digit_of, mark_of, sign_byte}
use Rattle.text.specs.Read.{may_follow, at_end, read_from, read_text}
use Rattle.text.specs.Write.{digits, text_from, text_of}
use Rattle.text.proofs.Digits as digits-laws
use Rattle.text.proofs.Follow.{digit_low, digit_high, makes_gap}
use Rattle.text.proofs.Cases.{by_mark_lem}

-- what a mark's byte is
pub sign_byte_lem : (b : ℕ) (k : Sign) → mark_of b ≡ Some (Leaps k) → b ≡ sign_byte k
sign_byte_lem b k e =
    by_bool (eqb b 43) (λ p. let q : Some (Leaps Positive) ≡ Some (Leaps k) = simp p at e in let r : Positive ≡ k = cc in eqb-true b 43 p ∙ ap sign_byte r)
    (λ p. by_bool (eqb b 45) (λ q. let m : Some (Leaps Negative) ≡ Some (Leaps k) = simp (p, q) at e in let r : Negative ≡ k = cc in eqb-true b 45 q ∙ ap sign_byte r)
    (λ q. by_bool (eqb b 63) (λ r. let m : Some Expires ≡ Some (Leaps k) = simp (p, q, r) at e in cc) (λ r. let m : None ≡ Some (Leaps k) = simp (p, q, r) at e in cc)))

pub end_byte_lem : (b : ℕ) → mark_of b ≡ Some Expires → b ≡ 63
end_byte_lem b e =
    by_bool (eqb b 43) (λ p. let m : Some (Leaps Positive) ≡ Some Expires = simp p at e in cc)
    (λ p. by_bool (eqb b 45) (λ q. let m : Some (Leaps Negative) ≡ Some Expires = simp (p, q) at e in cc)
    (λ q. by_bool (eqb b 63) (λ r. eqb-true b 63 r) (λ r. let m : None ≡ Some Expires = simp (p, q, r) at e in cc)))

-- the digits of a gap so far: none where a gap is due
pub spelled : ℕ → List ℕ
spelled g = cond (eqb g 0) [] (digits g)

pub spelled_none : (g : ℕ) → g ≡ 0 → spelled g ≡ []
unfolding spelled
spelled_none g e = rw e

pub spelled_some : (g : ℕ) → 0 < g → spelled g ≡ digits g
unfolding spelled
spelled_some g h = simp (ne_eqb g 0 (λ e. omega arith))

-- one digit more
more : (g d : ℕ) → d < 10 → 0 < g * 10 + d → g * 10 + d ≤ 999 → spelled (g * 10 + d) ≡ spelled g ++ ((48 + d) ∷ [])
more g d h some fits =
    let low : (g * 10 + d) % 10 ≡ d = omega arith in
    let high : (g * 10 + d) / 10 ≡ g = omega arith in
    by_bool (eqb g 0) (λ z. let e = eqb-true g 0 z in
    let n : g * 10 + d ≡ d = omega arith in
    rw (n, spelled_none g e) (spelled_some d (omega arith) ∙ digits-laws.one d h))
    (λ z. let p : 0 < g = pos_of_ne-zero (eqb-false g 0 z) in
    rw (spelled_some (g * 10 + d) some, spelled_some g p)
    (by_bool (ltb g 10)
    (λ a. let b : g < 10 = ltb-true g 10 a in
    rw (digits-laws.two (g * 10 + d) (omega arith) (omega arith), digits-laws.one g b, low, high))
    (λ a. let b : 10 ≤ g = ltb-false g 10 a in
    let top : (g * 10 + d) / 100 ≡ g / 10 = omega arith in
    rw (digits-laws.three (g * 10 + d) (omega arith), digits-laws.two g b (omega arith), low, high, top))))

-- what holds of the schedule so far: the text of its leaps, whatever leaps and expiry follow, is the bytes read before the gap, and then what follows
record Spelt (pre : List ℕ) (total : ℕ) (s : Schedule) : Type 0 where
  text : (ls : List Leap) (e : ℕ) → text_from 0 (s.leaps ++ ls) e ≡ pre ++ text_from total ls e

-- a reading that is accepted has a schedule whose text is the bytes read
record Says (whole : List ℕ) (r : Reading) : Type 0 where
  says : r.number ≡ 0 → text_of r.schedule ≡ whole

never : {whole : List ℕ} (n p : ℕ) → 0 < n → Says whole (refusal n p)
never n p h = record { says = λ e. absurd (omega arith) }

pub digit_read : (gap b : ℕ) (bs pre : List ℕ) → is_digit b ≡ true → may_follow gap b ≡ true → pre ++ (spelled gap ++ (b ∷ bs)) ≡ pre ++ (spelled (gap * 10 + digit_of b) ++ bs)
digit_read gap b bs pre i g =
    let low = digit_low b i in
    let high = digit_high b i in
    let g' = makes_gap gap b i g in
    let byte : 48 + (b - 48) ≡ b = omega arith in
    rw (more gap (b - 48) (omega arith) g'.0 g'.1, byte) (simp append_assoc)

spelt_leap : (pre : List ℕ) (total gap : ℕ) (s : Schedule) (k : Sign) → Spelt pre total s
    → Spelt (pre ++ (digits gap ++ (sign_byte k ∷ []))) (total + gap) (with_leap s (total + gap) k)
unfolding text_from
spelt_leap pre total gap s k d =
    record {
      text = λ ls e. (simp (append_assoc, d.text (record { month = total + gap; sign = k } ∷ ls) e, add-sub_cancel_left total gap));
    }

spelt_end : (pre : List ℕ) (total gap : ℕ) (s : Schedule) → Spelt pre total s → total + gap ≤ 2400 → Says (pre ++ (digits gap ++ (63 ∷ []))) (accepted s (month_start (total + gap)))
unfolding text_from text_of
spelt_end pre total gap s d h =
    record { says = λ z. ap (text_from 0 s.leaps) (month_of_start h) ∙ ap (λ (l : List Leap). text_from 0 l (total + gap)) (sym (append-nil s.leaps)) ∙ (d.text [] (total + gap) ∙ rw (add-sub_cancel_left total gap)) }

spelt_mark : (bs pre whole : List ℕ) (place total gap : ℕ) (s : Schedule) → whole ≡ pre ++ (digits gap ++ (63 ∷ bs)) → Spelt pre total s
    → total + gap ≤ 2400 → Says whole (at_end place s (month_start (total + gap)) bs)
spelt_mark [] pre whole place total gap s w d h = rw w (spelt_end pre total gap s d h)
spelt_mark (b ∷ bs) pre whole place total gap s w d h = never 6 place (omega arith)

spelt : (bs : List ℕ) (gap place total : ℕ) (s : Schedule) (pre whole : List ℕ) → whole ≡ pre ++ (spelled gap ++ bs) → Spelt pre total s
    → Says whole (read_from gap place total s bs)
unfolding read_from
spelt [] gap place total s pre whole w d = never 1 place (omega arith)
spelt (b ∷ bs) gap place total s pre whole w d =
    by_cond (Says whole) (is_digit b)
    (λ i. by_cond (Says whole) (may_follow gap b)
    (λ g. spelt bs (gap * 10 + digit_of b) (place + 1) total s pre whole (w ∙ digit_read gap b bs pre i g) d)
    (λ _. never 3 place (omega arith)))
    (λ _. by_cond (Says whole) (eqb gap 0)
    (λ _. never 2 place (omega arith))
    (λ z. let w' : whole ≡ pre ++ (digits gap ++ (b ∷ bs)) = rw (spelled_some gap (pos_of_ne-zero (eqb-false gap 0 z))) at w in
    by_mark_lem (Says whole) (mark_of b)
    (never 2 place (omega arith))
    (λ m. by_cond (Says whole) (leb (total + gap) 2400) (λ h. spelt_mark bs pre whole (place + 1) total gap s (rw (end_byte_lem b m) at w') d (leb-true _ _ h)) (λ _. never 4 place (omega arith)))
    (λ k m. by_cond (Says whole) (leb (total + gap) 2400)
    (λ _. by_cond (Says whole) (ltb (length s.leaps) 256)
    (λ _. spelt bs 0 (place + 1) (total + gap) (with_leap s (total + gap) k) (pre ++ (digits gap ++ (sign_byte k ∷ []))) whole
    (w' ∙ rw (sign_byte_lem b k m) (simp (append_assoc, spelled_none 0 refl))) (spelt_leap pre total gap s k d))
    (λ _. never 5 place (omega arith)))
    (λ _. never 4 place (omega arith)))))

blank_spelt : Spelt [] 0 blank_schedule
blank_spelt = record { text = λ ls e. refl }

-- the bytes of an accepted list are the text of its schedule
pub one_spelling : (bytes : List ℕ) → (read_text bytes).number ≡ 0 → text_of (read_text bytes).schedule ≡ bytes
unfolding read_text spelled
one_spelling bytes e = (spelt bytes 0 0 0 blank_schedule [] bytes refl blank_spelt).says e

-- two lists that read as the same schedule are the same bytes
pub no_other : (a b : List ℕ) → (read_text a).number ≡ 0 → (read_text b).number ≡ 0 → (read_text a).schedule ≡ (read_text b).schedule → a ≡ b
no_other a b p q e = sym (one_spelling a p) ∙ (ap text_of e ∙ one_spelling b q)
