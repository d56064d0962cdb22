-- Lists are told by their marks: one extends another exactly when it marks every month that the other knows as the other does, and expires no
-- earlier. Assumes nothing.
use mathlib.Core.Path.{◌≡◌, refl, sym, ap, ap₂, ◌∙◌}
use mathlib.Core.Bool.{true, false, cond, true≢false}
use mathlib.Core.List.{List, [], ◌∷◌}
use Prim.Native.Nat.{ℕ, ◌≤◌}
use native.Mathlib.Decide.{dec_lt}
use native.Mathlib.Omega.{arith}
use lib.Dec.{eqb}
use borrow.Author.Tests.{eq-eqb, ne_eqb, eqb-true}
use Rattle.calendar.proofs.Laws.{start_lt}
use Rattle.schedule.specs.declared.Leap.{Leap}
use Rattle.schedule.specs.Schedule.{Schedule, month_start, is_expired, gaps_fit, well_formed}
use Rattle.schedule.specs.Extends.{below, Extends}
use Rattle.schedule.proofs.Cases.{by_bool}
use Rattle.schedule.proofs.Expired.{not_expired, expired_from}
use Rattle.schedule.proofs.Extension.{leap_path, below_none}
use Rattle.schedule.proofs.Gaps.{later, before_end, parts}
use Rattle.text.specs.Bytes.{sign_byte}
use Rattle.compare.specs.Compare.{leap_mark}
use Rattle.compare.proofs.Marks.{none_yet, sign_told, not_both}

-- ---- the leaps below an expiry

-- they say of a month before it what all leaps say
below_marks : (e : ℕ) (ls : List Leap) (m : ℕ) → is_expired e m ≡ false → leap_mark (below e ls) m ≡ leap_mark ls m
unfolding below leap_mark
below_marks e [] m f = refl
below_marks e (l ∷ ls) m f =
    by_bool (is_expired e l.month)
    (λ t. rw (t, ne_eqb l.month m (λ z. true≢false (sym t ∙ (ap (is_expired e) z ∙ f)))) (below_marks e ls m f))
    (λ g. rw g (ap (λ (x : ℕ). cond (eqb l.month m) (sign_byte l.sign) x) (below_marks e ls m f)))

-- ---- leaps with the same marks

-- the mark of the first leap's month, and of another
at_leap : (l : Leap) (ls : List Leap) (m : ℕ) → l.month ≡ m → leap_mark (l ∷ ls) m ≡ sign_byte l.sign
unfolding leap_mark
at_leap l ls m e = rw (eq-eqb l.month m e)

off_leap : (l : Leap) (ls : List Leap) (m : ℕ) → (l.month ≡ m → ⊥) → leap_mark (l ∷ ls) m ≡ leap_mark ls m
unfolding leap_mark
off_leap l ls m n = rw (ne_eqb l.month m n)

-- the marks of the months that are known, under both lists of leaps
abbrev Alike : ℕ → List Leap → List Leap → Type 0
Alike f xs ys = (m : ℕ) → is_expired f m ≡ false → leap_mark xs m ≡ leap_mark ys m

-- after a common first leap the rest is alike too
rest_alike : (x : Leap) (xs ys : List Leap) (e f : ℕ) → gaps_fit x.month xs e ≡ true → gaps_fit x.month ys f ≡ true → Alike f (x ∷ xs) (x ∷ ys) → Alike f xs ys
rest_alike x xs ys e f g h a m k =
    by_bool (eqb x.month m)
    (λ t.
    let z : m ≤ x.month = omega (arith, eqb-true x.month m t) in
    none_yet xs x.month e m g z ∙ sym (none_yet ys x.month f m h z))
    (λ n.
    let off : x.month ≡ m → ⊥ = λ z. true≢false (sym (eq-eqb x.month m z) ∙ n) in
    sym (off_leap x xs m off) ∙ (a m k ∙ off_leap x ys m off))

-- leaps that mark every month before an expiry alike are the same below it
told : (from : ℕ) (xs ys : List Leap) (e f : ℕ) → gaps_fit from xs e ≡ true → gaps_fit from ys f ≡ true → Alike f xs ys → below f xs ≡ ys
unfolding below leap_mark
told from [] [] e f g h a = refl
told from [] (y ∷ ys) e f g h a =
    absurd (not_both y.sign (at_leap y ys y.month refl) (sym (a y.month (not_expired f y.month (before_end ys y.month f (later from y ys f h))))))
told from (x ∷ xs) [] e f g h a =
    by_bool (is_expired f x.month) (λ t. rw t (below_none f x.month xs e (later from x xs e g) (expired_from f x.month t)))
    (λ n. absurd (not_both x.sign (at_leap x xs x.month refl) (a x.month n)))
told from (x ∷ xs) (y ∷ ys) e f g h a =
    let more = later from x xs e g in
    let more' = later from y ys f h in
    let known = not_expired f y.month (before_end ys y.month f more') in
    elim (dec_lt x.month y.month) [
      | yes l ↦
          absurd (not_both x.sign (at_leap x xs x.month refl)
          (a x.month (not_expired f x.month (omega (arith, start_lt l, before_end ys y.month f more')))
          ∙ (off_leap y ys x.month (λ z. omega arith) ∙ none_yet ys y.month f x.month more' (omega arith))))
      | no l ↦
          elim (dec_lt y.month x.month) [
            | yes k ↦
                absurd (not_both y.sign (at_leap y ys y.month refl)
                (sym (a y.month known) ∙ (off_leap x xs y.month (λ z. omega arith) ∙ none_yet xs x.month e y.month more (omega arith))))
            | no k ↦
                let z : x.month ≡ y.month = omega arith in
                let s : x.sign ≡ y.sign = sign_told x.sign y.sign (sym (at_leap x xs y.month z) ∙ (a y.month known ∙ at_leap y ys y.month refl)) in
                let p : x ≡ y = leap_path z s in
                let more'' = rw (← z) at more' in
                rw (not_expired f x.month (omega (arith, ap month_start z, before_end ys y.month f more')))
                (ap₂ (λ v vs. v ∷ vs) p (told x.month xs ys e f more more'' (rest_alike x xs ys e f more more'' (rw (← p) at a))))
          ]
    ]

-- ---- two lists

-- a list marks what a shorter one knows as that one does
pub marks_kept : {a b : Schedule} → Extends a b → (m : ℕ) → is_expired b.expiry m ≡ false → leap_mark a.leaps m ≡ leap_mark b.leaps m
marks_kept {a} {b} x m f = sym (below_marks b.expiry a.leaps m f) ∙ ap (λ ls. leap_mark ls m) x.same

-- and one that does so, and expires no earlier, extends it
pub by_marks : (a b : Schedule) → well_formed a ≡ true → well_formed b ≡ true → b.expiry ≤ a.expiry
    → ((m : ℕ) → is_expired b.expiry m ≡ false → leap_mark a.leaps m ≡ leap_mark b.leaps m) → Extends a b
by_marks a b w w' h alike =
    record { same = told 0 a.leaps b.leaps a.expiry b.expiry (parts a w).gaps (parts b w').gaps alike; later = h }
