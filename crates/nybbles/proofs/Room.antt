-- How much room a nybble list needs. Assumes nothing.
use mathlib.Core.Path.{◌≡◌, refl, ◌∙◌}
use mathlib.Core.Bool.{true}
use mathlib.Core.List.{List, [], ◌∷◌, flatten}
use Prim.Native.Nat.{ℕ, zero, suc, ◌+◌, ◌*◌, ◌%◌, ◌≤◌, ◌<◌}
use native.Mathlib.Omega.{arith}
use lib.Dec.{eqb}
use lib.ListN.{length}
use borrow.Author.Tests.{lt-ltb, le-leb}
use Rattle.schedule.specs.declared.Sign.TheVariants.{Positive}
use Rattle.schedule.specs.declared.Leap.{Leap}
use Rattle.schedule.specs.Schedule.{Schedule, month_start, expiry_fits, gaps_fit, last_leap, expiry_month, leaves_gap, well_formed}
use Rattle.schedule.proofs.Cases.{by_bool}
use Rattle.schedule.proofs.Gaps.{parts}
use Rattle.schedule.proofs.Rounded.{rounded_gaps}
use Rattle.calendar.proofs.Laws.{start_lt, start_to, month_most, month_of_start}
use Rattle.nybbles.specs.Write.{sixes_in, sixes, gap_codes, codes_from, any_single, padded, evened, plain_codes, spelling, nybbles_of}
use Rattle.nybbles.proofs.Codes.{All, more}
use Rattle.nybbles.proofs.Stored.{list_short, list_few}
use Rattle.nybbles.proofs.Division.{IsCode, short, long, spelling_all, length_pack, nybble_count}

-- a code has at most two nybbles, and evening adds none
flat_short : (cs : List (List ℕ)) → All IsCode cs → length (flatten cs) ≤ 2 * length cs
unfolding flatten
flat_short [] a = omega arith
flat_short (c ∷ cs) (more (short h) a) = let i = flat_short cs a in omega arith
flat_short (c ∷ cs) (more (long h l k) a) = let i = flat_short cs a in omega arith

padded_length : (cs : List (List ℕ)) → length (padded cs) ≡ length cs
unfolding padded
padded_length [] = refl
padded_length (c ∷ cs) = by_bool (any_single cs) (λ a. simp (a, padded_length cs)) (λ a. simp a)

evened_length : (cs : List (List ℕ)) → length (evened cs) ≡ length cs
unfolding evened
evened_length cs = by_bool (eqb (length (flatten cs) % 2) 1) (λ a. simp (a, padded_length cs)) (λ a. simp a)

-- the nybble list of a well-formed schedule has at most 2,400 bytes
pub at_most : (s : Schedule) → well_formed s ≡ true → leaves_gap s ≡ true → length (nybbles_of s) ≤ 2400
unfolding spelling
at_most s w g =
    let end = month_most s.expiry in
    let a = list_short s.leaps 0 (expiry_month s) (rounded_gaps s w g) in
    let b = evened_length (plain_codes s) in
    let c = flat_short (spelling s) (spelling_all s) in
    omega (arith, nybble_count s)

-- so the nybble list of a well-formed schedule has at most 390 bytes
pub at_most_390 : (s : Schedule) → well_formed s ≡ true → leaves_gap s ≡ true → length (nybbles_of s) ≤ 390
unfolding spelling
at_most_390 s w g =
    let end = month_most s.expiry in
    let a = list_few s.leaps 0 (expiry_month s) (rounded_gaps s w g) in
    let b = evened_length (plain_codes s) in
    let c = flat_short (spelling s) (spelling_all s) in
    omega (arith, nybble_count s, (parts s w).room)

-- n leaps, each a gap after the one before, and others
unfoldable pub spaced : ℕ → ℕ → ℕ → List Leap → List Leap
spaced zero gap from others = others
spaced (suc n) gap from others = record { month = from + gap; sign = Positive } ∷ spaced n gap (from + gap) others

-- 133 gaps of 17 months and 124 of 1: 256 leaps, and month 2385
abbrev pub longest : Schedule
longest = record { leaps = spaced 133 17 0 (spaced 123 1 2261 []); expiry = month_start 2385 }

its_month : expiry_month longest ≡ 2385
its_month = month_of_start (omega arith)

its_gaps : gaps_fit 0 longest.leaps longest.expiry ≡ expiry_fits 2384 (month_start 2385)
unfolding spaced gaps_fit
its_gaps = refl

its_end : expiry_fits 2384 (month_start 2385) ≡ true
its_end =
    let a : 2384 < 2385 = omega arith in
    let b : 2385 < 3384 = omega arith in
    simp (lt-ltb (month_start 2384) (month_start 2385) (start_lt a), lt-ltb (month_start 2385) (month_start 3384) (start_lt b))

its_nybbles : length (flatten (codes_from 0 longest.leaps 2385)) ≡ 780
unfolding spaced codes_from gap_codes sixes sixes_in flatten
its_nybbles = refl

-- it can be written, and takes all 390
pub longest_well : well_formed longest ≡ true
unfolding spaced
longest_well = simp (le-leb (month_start 2385) 114366 (start_to (omega arith)), its_gaps, its_end)

pub longest_leaves_gap : leaves_gap longest ≡ true
unfolding spaced last_leap
longest_leaves_gap = rw its_month

pub longest_390 : length (nybbles_of longest) ≡ 390
unfolding nybbles_of spelling evened
longest_390 = rw its_month (simp its_nybbles (length_pack (flatten (codes_from 0 longest.leaps 2385)) ∙ omega (arith, its_nybbles)))
