-- The writer's bytes are the one spelling of the rules. Assumes nothing.
use Rattle.std.proofs.Common.{◌≡◌, ℕ, zero, suc, ◌+◌, ◌*◌, ◌-◌, ◌/◌, ◌%◌, ◌≤◌, ◌<◌, true, false, cond, ◌||◌, eqb, leb, ◌↔◌, List, [], ◌∷◌, ◌++◌, length, sym, refl, ap, ◌∙◌, arith, le-leb, leb-true, leb-false, eq-eqb, ne_eqb, eqb-true}
use mathlib.Core.Bool.{false≢true}
use mathlib.Core.List.{flatten}
use native.Mathlib.Decide.{dec_lt}
use borrow.Author.Tests.{lt-leb, eqb-false}
use Rattle.schedule.specs.declared.Sign.TheVariants.{Positive, Negative}
use Rattle.schedule.specs.declared.Leap.{Leap}
use Rattle.schedule.specs.Schedule.{Schedule, month_start, expiry_month, leaves_gap, well_formed}
use Rattle.schedule.proofs.Cases.{by_bool}
use Rattle.nybbles.specs.Codes.{np_of}
use Rattle.nybbles.specs.Write.{sixes_code, sixteen, sixes, gap_codes, codes_from, is_single, any_single, padded, evened, plain_codes, spelling, pack, nybbles_of}
use Rattle.nybbles.proofs.Stored.{sixes_more, sixes_last, gap_sixes, gap_months, gap_years}
use Rattle.calendar.specs.Calendar.{first_day, end_day, InMonth}
use Rattle.calendar.proofs.Laws.{start_zero, start_last, same_month, first_in, in_month, late_month}
use Rattle.schedule.proofs.Gaps.{fits_lt, before_end, parts}
use Rattle.schedule.proofs.Rounded.{gaps_to, first_to, later_to, rounded_gaps}
use Rattle.nybbles.proofs.Codes.{All}
use Rattle.nybbles.proofs.Codes as codes
use Rattle.nybbles.proofs.Division.{IsCode, none_single, no_nybble_lost, list_all}
use Rattle.nybbles.proofs.Division as division
use Rattle.nybbles.proofs.Packed.{packed}
use Rattle.nybbles.proofs.RulesRead.{same_nybbles}
use Rattle.nybbles.specs.Rules.{halves, Says, leap, nothing, expiry, SaysNP, np01, np10, np00, np11, code, Sixes, remain, single, rest, Gap, multiple, short, long, Gaps, last, next, NoSingle, none, more, Evened, even, odd, Written, written}

-- ---- what the rules spell is what the definitions spell

abbrev np_by : Says → ℕ
np_by (leap sign) = np_of sign
np_by nothing = 0
np_by expiry = 3

np_is : {np : ℕ} {says : Says} → SaysNP np says → np ≡ np_by says
np_is np01 = refl
np_is np10 = refl
np_is np00 = refl
np_is np11 = refl

np_has : (says : Says) → SaysNP (np_by says) says
np_has (leap Positive) = np01
np_has (leap Negative) = np10
np_has nothing = np00
np_has expiry = np11

-- what is chosen above a limit
over : {A : Type 0} (k most : ℕ) (x y : A) → most < k → cond (leb k most) x y ≡ y
over k most x y h = simp (lt-leb k most h)

-- a code of sixes that is no single nybble
double : (says : Says) (k : ℕ) → (says ≡ leap Positive → 8 < k) → sixes_code (np_by says) k ≡ code 0 (np_by says) (k - 1)
double (leap Positive) k h = over k _ _ _ (omega (arith, h refl))
double (leap Negative) k h = refl
double nothing k h = refl
double expiry k h = refl

alone : (k : ℕ) → k ≤ 8 → sixes_code 1 k ≡ (k - 1) ∷ []
alone k h = simp (le-leb k 8 h)

sixes_are : {says : Says} {k : ℕ} {codes : List (List ℕ)} → Sixes says k codes → (0 < k) × (codes ≡ sixes (np_by says) k)
sixes_are {says} (remain {k} h s) =
    let i = sixes_are s in
    (omega arith, ap (λ (cs : List (List ℕ)). sixteen ∷ cs) i.1 ∙ sym (sixes_more (np_by says) k h))
sixes_are (single {k} e h l) = (omega arith, rw e (ap (λ (c : List ℕ). c ∷ []) (sym (alone k l)) ∙ sym (sixes_last 1 k h (omega arith))))
sixes_are {says} (rest {k} e h l n) = (omega arith, rw (np_is n) (ap (λ (c : List ℕ). c ∷ []) (sym (double says k e)) ∙ sym (sixes_last (np_by says) k h l)))

gap_is : {says : Says} {gap : ℕ} {codes : List (List ℕ)} → Gap says gap codes → codes ≡ gap_codes (np_by says) gap
gap_is {says} (multiple {k} s) =
    let e : 6 * k / 6 ≡ k = omega arith in
    (sixes_are s).1 ∙ (ap (sixes (np_by says)) (sym e) ∙ sym (gap_sixes (np_by says) (6 * k) (omega arith)))
gap_is {says} (short {gap} h l n) = rw (np_is n) (sym (gap_months (np_by says) gap h l))
gap_is {says} (long years months h l p q s n) =
    let y : (12 * years + months) / 12 ≡ years = omega arith in
    let t : 2 * years ≡ years * 2 = omega arith in
    let m : (12 * years + months) % 12 ≡ months = omega arith in
    rw (np_is n, (sixes_are s).1, gap_years (np_by says) (12 * years + months) h l, y, m, t)

gaps_are : {end from : ℕ} {ls : List Leap} {codes : List (List ℕ)} → Gaps end from ls codes → codes ≡ codes_from from ls end
unfolding codes_from
gaps_are {end} {from} (last {gap} e g) =
    let q : end - from ≡ gap = omega arith in
    rw q (gap_is g)
gaps_are {from} (next {gap} {l} e g gs) =
    let q : l.month - from ≡ gap = omega arith in
    rw (q, gap_is g, gaps_are gs)

no_single : {cs : List (List ℕ)} → NoSingle cs → any_single cs ≡ false
unfolding any_single
no_single none = refl
no_single (more n) = no_single n

some_single : (before : List (List ℕ)) (v : ℕ) (after : List (List ℕ)) → any_single (before ++ ((v ∷ []) ∷ after)) ≡ true
unfolding any_single
some_single [] v after = refl
some_single (c ∷ cs) v after = by_bool (is_single c) (λ b. simp b) (λ b. simp (b, some_single cs v after))

nine_at : (before : List (List ℕ)) (v : ℕ) (after : List (List ℕ)) → NoSingle after → padded (before ++ ((v ∷ []) ∷ after)) ≡ before ++ ((9 ∷ v ∷ []) ∷ after)
unfolding padded
nine_at [] v after n = simp (no_single n)
nine_at (c ∷ cs) v after n = simp (some_single cs v after, nine_at cs v after n)

evened_is : {cs all : List (List ℕ)} → Evened cs all → all ≡ evened cs
unfolding evened
evened_is {cs} (even e) = simp (ne_eqb (length (flatten cs) % 2) 1 (λ o. omega arith))
evened_is {cs} (odd before v after o e n) = simp (eq-eqb (length (flatten cs) % 2) 1 o) (sym (nine_at before v after n) ∙ ap padded (sym e))

-- ---- what the definitions spell is what the rules spell

abbrev is_positive : Says → ℕ
is_positive (leap Positive) = 1
is_positive (leap Negative) = 0
is_positive nothing = 0
is_positive expiry = 0

last_has : (says : Says) (k : ℕ) → 0 < k → k ≤ 16 → Sixes says k (sixes_code (np_by says) k ∷ [])
last_has (leap Positive) k h l =
    elim (dec_lt 8 k) [
      | yes m ↦ rw (double (leap Positive) k (λ e. m)) (rest (λ e. m) h l np01)
      | no m ↦ rw (alone k (omega arith)) (single refl h (omega arith))
    ]
last_has (leap Negative) k h l = rest (λ e. absurd (omega (arith, ap is_positive e))) h l np10
last_has nothing k h l = rest (λ e. absurd (omega (arith, ap is_positive e))) h l np00
last_has expiry k h l = rest (λ e. absurd (omega (arith, ap is_positive e))) h l np11

sixes_in_has : (most : ℕ) (says : Says) (k : ℕ) → 0 < k → k ≤ most → Sixes says k (sixes (np_by says) k)
sixes_in_has zero says k h l = absurd (omega arith)
sixes_in_has (suc most) says k h l =
    elim (dec_lt 16 k) [
      | yes m ↦ rw (sixes_more (np_by says) k m) (remain m (sixes_in_has most says (k - 16) (omega arith) (omega arith)))
      | no m ↦ let n : k ≤ 16 = omega arith in rw (sixes_last (np_by says) k h n) (last_has says k h n)
    ]

sixes_has : (says : Says) (k : ℕ) → 0 < k → Sixes says k (sixes (np_by says) k)
sixes_has says k h = sixes_in_has k says k h (omega arith)

gap_has : (says : Says) (gap : ℕ) → 0 < gap → Gap says gap (gap_codes (np_by says) gap)
gap_has says gap some =
    by_bool (eqb (gap % 6) 0)
    (λ a. let z = eqb-true (gap % 6) 0 a in
    let e : 6 * (gap / 6) ≡ gap = omega arith in
    rw (gap_sixes (np_by says) gap z) (rw e at (multiple (sixes_has says (gap / 6) (omega arith)))))
    (λ a. let z = eqb-false (gap % 6) 0 a in
    by_bool (leb gap 16)
    (λ b. let l = leb-true gap 16 b in rw (gap_months (np_by says) gap z l) (short z l (np_has says)))
    (λ b. let l = leb-false gap 16 b in
    let e : 12 * (gap / 12) + gap % 12 ≡ gap = omega arith in
    let t : 2 * (gap / 12) ≡ gap / 12 * 2 = omega arith in
    let y : Sixes nothing (2 * (gap / 12)) (sixes 0 (gap / 12 * 2)) = rw t (sixes_has nothing (gap / 12 * 2) (omega arith)) in
    let g : Gap says (12 * (gap / 12) + gap % 12) (sixes 0 (gap / 12 * 2) ++ (code 1 (np_by says) (gap % 12 - 1) ∷ [])) =
    long (gap / 12) (gap % 12) (λ q. z (omega arith)) (omega arith) (omega arith) (omega arith) y (np_has says) in
    rw (gap_years (np_by says) gap z l) (rw e at g)))

gaps_has : (ls : List Leap) (from end : ℕ) → gaps_to from ls end ≡ true → Gaps end from ls (codes_from from ls end)
unfolding codes_from gaps_to
gaps_has [] from end f =
    let a : from < end = fits_lt from end f in
    last {from = from} {gap = end - from} (omega arith) (gap_has expiry (end - from) (omega arith))
gaps_has (l ∷ ls) from end f =
    let a : from < l.month = fits_lt from l.month (first_to from l ls end f) in
    next {from = from} {gap = l.month - from} {l = l} (omega arith) (gap_has (leap l.sign) (l.month - from) (omega arith)) (gaps_has ls l.month end (later_to from l ls end f))

-- where the last single nybble is
record Split (cs : List (List ℕ)) : Type 0 where
  before : List (List ℕ)
  v : ℕ
  after : List (List ℕ)
  whole : cs ≡ before ++ ((v ∷ []) ∷ after)
  no : NoSingle after

none_of : (cs : List (List ℕ)) → All IsCode cs → any_single cs ≡ false → NoSingle cs
unfolding any_single
none_of [] a e = none
none_of (c ∷ cs) (codes.more (division.short h) a) e = absurd (false≢true (sym e))
none_of (c ∷ cs) (codes.more (division.long h l i) a) e = more (none_of cs a e)

split : (cs : List (List ℕ)) → All IsCode cs → any_single cs ≡ true → Split cs
unfolding any_single
split [] a e = absurd (false≢true e)
split (c ∷ cs) (codes.more h a) e =
    by_bool (any_single cs)
    (λ b. let r = split cs a b in record { before = c ∷ r.before; v = r.v; after = r.after; whole = ap (λ (t : List (List ℕ)). c ∷ t) r.whole; no = r.no })
    (λ b. first h (none_of cs a b) (simp b at e))
  where
    first : {c : List ℕ} → IsCode c → NoSingle cs → is_single c || false ≡ true → Split (c ∷ cs)
    first (division.short {v} h) n q = record { before = []; v = v; after = cs; whole = refl; no = n }
    first (division.long h l i) n q = absurd (false≢true q)

evened_has : (cs : List (List ℕ)) → All IsCode cs → Evened cs (evened cs)
unfolding evened
evened_has cs a =
    by_bool (eqb (length (flatten cs) % 2) 1)
    (λ b. let o = eqb-true (length (flatten cs) % 2) 1 b in
    by_bool (any_single cs)
    (λ d. let r = split cs a d in
    let e : padded cs ≡ r.before ++ ((9 ∷ r.v ∷ []) ∷ r.after) = ap padded r.whole ∙ nine_at r.before r.v r.after r.no in
    simp b (rw e (odd r.before r.v r.after o r.whole r.no)))
    (λ d. let e : length (flatten cs) ≡ 2 * length cs = none_single cs a d in absurd (omega arith)))
    (λ b. let o = eqb-false (length (flatten cs) % 2) 1 b in simp b (even (omega arith)))

-- ---- the writer

module _ (s : Schedule) (w : well_formed s ≡ true) where
  -- the month that the expiry lies in
  expires_in : InMonth s.expiry (expiry_month s)
  expires_in =
      let p = parts s w in
      let from : first_day ≤ s.expiry = omega (arith, start_zero, before_end s.leaps 0 s.expiry p.gaps) in
      elim (dec_lt s.expiry end_day) [
        | yes l ↦ in_month from l
        | no l ↦
            let e : s.expiry ≡ month_start 2400 = omega (arith, p.end, start_last) in
            let m : expiry_month s ≡ 2400 = late_month (omega arith) in
            rw (m, e) (first_in 2400)
      ]

  -- no other bytes are the rules' spelling of a well-formed schedule
  only_written : (bytes : List ℕ) → Written s (halves bytes) → bytes ≡ nybbles_of s
  unfolding nybbles_of spelling
  only_written bytes x = go (halves bytes) refl x
    where
      go : (ns : List ℕ) → halves bytes ≡ ns → Written s ns → bytes ≡ pack (flatten (evened (plain_codes s)))
      go ns h (written {end} {codes = cs} {all} p q g e) =
          let m : end ≡ expiry_month s = same_month (record { from = p; before = q }) expires_in in
          let c : cs ≡ plain_codes s = gaps_are g ∙ ap (codes_from 0 s.leaps) m in
          let a : all ≡ evened (plain_codes s) = evened_is e ∙ ap evened c in
          sym (packed bytes) ∙ ap pack (same_nybbles bytes ∙ (h ∙ ap flatten a))

  module _ (g : leaves_gap s ≡ true) where
    -- the writer's bytes are
    is_written : Written s (halves (nybbles_of s))
    unfolding spelling
    is_written =
        let m = expires_in in
        let n : flatten (evened (plain_codes s)) ≡ halves (nybbles_of s) = sym (no_nybble_lost s) ∙ same_nybbles (nybbles_of s) in
        rw n at (written m.from m.before (gaps_has s.leaps 0 (expiry_month s) (rounded_gaps s w g)) (evened_has (plain_codes s) (list_all s.leaps 0 (expiry_month s))))

    -- the bytes that are written of a schedule are exactly the one spelling by the rules' words
    pub written_exactly : (bytes : List ℕ) → (bytes ≡ nybbles_of s) ↔ Written s (halves bytes)
    written_exactly bytes = (λ e. rw e is_written, only_written bytes)
