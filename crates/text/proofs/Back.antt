-- Reading back: the text of a well-formed schedule is read as that schedule rounded down, so as itself where it expires on the first of a month.
-- Assumes nothing.
use mathlib.Core.Path.{◌≡◌, refl, ap, ◌∙◌, sym}
use mathlib.Core.Bool.{true}
use mathlib.Core.List.{List, [], ◌∷◌, ◌++◌, append_assoc}
use Prim.Native.Nat.{ℕ, ◌+◌, ◌*◌, ◌-◌, ◌/◌, ◌%◌, ◌≤◌, ◌<◌}
use native.Mathlib.Nat.{add-sub_cancel_left, mod-lt, div-add-mod', div-div-eq-div-mul}
use native.Mathlib.Omega.{arith}
use lib.Dec.{ltb}
use lib.ListN.{length, length-append}
use borrow.Author.Tests.{ltb-true, ltb-false, lt-ltb, le-leb, ne_eqb}
use Rattle.schedule.specs.declared.Sign.{Sign}
use Rattle.schedule.specs.declared.Sign.TheVariants.{Positive, Negative}
use Rattle.schedule.specs.declared.Leap.{Leap}
use Rattle.schedule.specs.Schedule.{Schedule, month_start, blank_schedule, expiry_month, rounded_down, leaves_gap, well_formed}
use Rattle.calendar.specs.Calendar.{starts_month}
use Rattle.calendar.proofs.Laws.{month_most}
use Rattle.schedule.specs.Answers.{Reading, accepted, with_leap}
use Rattle.schedule.proofs.Cases.{by_bool}
use Rattle.schedule.proofs.Gaps.{fits_lt, fits_le, parts}
use Rattle.schedule.proofs.Rounded.{gaps_to, first_to, later_to, before_to, rounded_gaps, rounds_itself, first_leaves_gap}
use Rattle.schedule.proofs.Adds.{adds, made_again}
use Rattle.text.proofs.Sound.{accepted_first}
use Rattle.text.specs.Bytes.{zero_byte, nine_byte, end_byte, is_digit, digit_of, sign_byte}
use Rattle.text.specs.Read.{read_from, read_text}
use Rattle.text.specs.Write.{digits, text_from, text_of}
use Rattle.text.proofs.Follow.{follows}

-- one digit: the gap so far and the place after it
digit : (d g p t : ℕ) (s : Schedule) (rest : List ℕ) (g' p' : ℕ) → g * 10 + d ≡ g' → p + 1 ≡ p' → d < 10 → 0 < g' → g' ≤ 999
    → read_from g p t s ((zero_byte + d) ∷ rest) ≡ read_from g' p' t s rest
unfolding read_from
digit d g p t s rest g' p' e q h some fits =
    let is : is_digit (zero_byte + d) ≡ true = simp (le-leb zero_byte (zero_byte + d) (omega arith), le-leb (zero_byte + d) nine_byte (omega arith)) in
    let v : digit_of (zero_byte + d) ≡ d = add-sub_cancel_left zero_byte d in
    simp (le-leb zero_byte (zero_byte + d) (omega arith), le-leb (zero_byte + d) nine_byte (omega arith), follows g (zero_byte + d) is (λ z. omega arith) (omega arith), v, e, q)

-- the digits of a gap, from where a gap is due
pub gap_back : (g p t : ℕ) (s : Schedule) (rest : List ℕ) → 0 < g → g ≤ 999
    → read_from 0 p t s (digits g ++ rest) ≡ read_from g (p + length (digits g)) t s rest
unfolding digits
gap_back g p t s rest some fits =
    let ten : g / 10 * 10 + g % 10 ≡ g = div-add-mod' g 10 in
    let tens : g / 10 / 10 * 10 + g / 10 % 10 ≡ g / 10 = div-add-mod' (g / 10) 10 in
    let hundreds : g / 10 / 10 ≡ g / 100 = div-div-eq-div-mul g 10 10 in
    let low : g % 10 < 10 = mod-lt g (omega arith) in
    let mid : g / 10 % 10 < 10 = mod-lt (g / 10) (omega arith) in
    by_bool (ltb g 10)
    (λ a. simp a (digit g 0 p t s rest g (p + 1) (omega arith) refl (ltb-true g 10 a) some fits))
    (λ a. by_bool (ltb g 100)
    (λ b. simp (a, b)
    (digit (g / 10) 0 p t s ((48 + g % 10) ∷ rest) (g / 10) (p + 1) (omega arith) refl (omega (arith, ltb-true g 100 b)) (omega (arith, ltb-false g 10 a)) (omega arith)
    ∙ digit (g % 10) (g / 10) (p + 1) t s rest g (p + 2) ten (omega arith) low some fits))
    (λ b. simp (a, b)
    (digit (g / 100) 0 p t s ((48 + g / 10 % 10) ∷ (48 + g % 10) ∷ rest) (g / 100) (p + 1) (omega arith) refl (omega arith) (omega (arith, ltb-false g 100 b)) (omega arith)
    ∙ (digit (g / 10 % 10) (g / 100) (p + 1) t s ((48 + g % 10) ∷ rest) (g / 10) (p + 2) (omega arith) (omega arith) mid (omega (arith, ltb-false g 100 b)) (omega arith)
    ∙ digit (g % 10) (g / 10) (p + 2) t s rest g (p + 3) ten (omega arith) low some fits))))

-- a sign after a gap, and the mark of the expiry
pub leap_back : (g p t m : ℕ) (s : Schedule) (k : Sign) (rest : List ℕ) → 0 < g → t + g ≡ m → m ≤ 2400 → length s.leaps < 256
    → read_from g p t s (sign_byte k ∷ rest) ≡ read_from 0 (p + 1) m (with_leap s m k) rest
unfolding read_from
leap_back g p t m s Positive rest some e h room = simp (ne_eqb g 0 (λ z. omega arith), e, le-leb m 2400 h, lt-ltb (length s.leaps) 256 room)
leap_back g p t m s Negative rest some e h room = simp (ne_eqb g 0 (λ z. omega arith), e, le-leb m 2400 h, lt-ltb (length s.leaps) 256 room)

pub end_back : (g p t m : ℕ) (s : Schedule) → 0 < g → t + g ≡ m → m ≤ 2400 → read_from g p t s (63 ∷ []) ≡ accepted s (month_start m)
unfolding read_from
end_back g p t m s some e h = simp (ne_eqb g 0 (λ z. omega arith), e, le-leb m 2400 h)

list_back : (ls : List Leap) (from p expiry : ℕ) (s : Schedule) → gaps_to from ls expiry ≡ true → expiry ≤ 2400 → length s.leaps + length ls ≤ 256
    → read_from 0 p from s (text_from from ls expiry) ≡ accepted (adds s ls) (month_start expiry)
unfolding text_from gaps_to adds
list_back [] from p expiry s f h room =
    let a : from < expiry = fits_lt from expiry f in
    let b : expiry - from ≤ 999 = fits_le from expiry f in
    gap_back (expiry - from) p from s (end_byte ∷ []) (omega arith) b
    ∙ end_back (expiry - from) _ from expiry s (omega arith) (omega arith) h
list_back (l ∷ ls) from p expiry s f h room =
    let a : from < l.month = fits_lt from l.month (first_to from l ls expiry f) in
    let b : l.month - from ≤ 999 = fits_le from l.month (first_to from l ls expiry f) in
    let c : l.month < expiry = before_to ls l.month expiry (later_to from l ls expiry f) in
    rw append_assoc (gap_back (l.month - from) p from s (sign_byte l.sign ∷ text_from l.month ls expiry) (omega arith) b
    ∙ (leap_back (l.month - from) _ from l.month s l.sign (text_from l.month ls expiry) (omega arith) (omega arith) (omega arith) (omega arith)
    ∙ list_back ls l.month _ expiry (with_leap s l.month l.sign) (later_to from l ls expiry f) h
    (omega (arith, length-append s.leaps (record { month = l.month; sign = l.sign } ∷ [])))))

-- the text of a well-formed schedule reads back as the schedule rounded down
pub reads_back_rounded : (s : Schedule) → well_formed s ≡ true → leaves_gap s ≡ true → read_text (text_of s) ≡ record { number = 0; place = 0; schedule = rounded_down s }
unfolding read_text text_of
reads_back_rounded s w g =
    list_back s.leaps 0 0 (expiry_month s) blank_schedule (rounded_gaps s w g) (month_most s.expiry) (omega (arith, (parts s w).room)) ∙ made_again (rounded_down s)

-- so every one that expires on the first of a month reads back as itself
pub reads_back : (s : Schedule) → well_formed s ≡ true → starts_month s.expiry ≡ true → read_text (text_of s) ≡ record { number = 0; place = 0; schedule = s }
reads_back s w m = reads_back_rounded s w (first_leaves_gap s w m) ∙ ap (λ (t : Schedule). record { number = 0; place = 0; schedule = t }) (rounds_itself s m)

-- and no other does
pub only_first : (s : Schedule) → read_text (text_of s) ≡ record { number = 0; place = 0; schedule = s } → starts_month s.expiry ≡ true
only_first s e = ap (λ (r : Reading). starts_month r.schedule.expiry) (sym e) ∙ accepted_first (text_of s) (ap (λ (r : Reading). r.number) e)
