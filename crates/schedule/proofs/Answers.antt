-- The answers of a writer: of bytes that fit or do not, and of the list of a schedule.
-- Assumes nothing.
use Rattle.std.proofs.Common.{◌≡◌, ℕ, ◌+◌, ◌<◌, ◌≤◌, true, false, List, ◌++◌, length, drop, ap, ◌∙◌, arith, le-leb}
use lib.Seq.{sets, sets-eq}
use borrow.Author.Tests.{lt-leb}
use Rattle.refusals.specs.Answer as answer
use Rattle.refusals.specs.Answer.{require}
use Rattle.refusals.specs.Refusals.{output_short, not_well_formed, no_gap}
use Rattle.schedule.specs.Schedule.{Schedule, leaves_gap, well_formed}
use Rattle.schedule.specs.Answers.{fitting, fitted, writable, writing, written}
use Rattle.schedule.proofs.Cases.{by_bool}

module _ (bytes out : List ℕ) where
  -- what writing bytes promises of its answer and of the output
  abbrev pub Fits : answer.Answer ℕ → List ℕ → Type 0
  Fits r exit = (r ≡ fitting bytes (length out)) × (exit ≡ fitted bytes out)

  -- there is room, and the bytes are stored from the start
  pub fits : (n : ℕ) → n ≡ length bytes → n ≤ length out → (exit : List ℕ) → exit ≡ sets out 0 bytes → Fits (answer.given n) exit
  unfolding fitted
  fits n e h exit x =
      let l : length bytes ≤ length out = omega arith in
      let z : 0 + length bytes ≡ length bytes = omega arith in
      let y : exit ≡ bytes ++ drop (length bytes) out = x ∙ (sets-eq bytes out 0 (omega arith) ∙ ap (λ (k : ℕ). bytes ++ drop k out) z) in
      (simp (le-leb (length bytes) (length out) l, e), simp (le-leb (length bytes) (length out) l) y)

  -- or there is none
  pub no_room : (n : ℕ) → n ≡ length bytes → length out < n → Fits (answer.refused output_short) out
  unfolding fitted
  no_room n e h =
      let l : length out < length bytes = omega arith in
      (simp (lt-leb (length bytes) (length out) l), simp (lt-leb (length bytes) (length out) l))

-- ---- what every writer asks first of a schedule

module _ {A : Type 0} (s : Schedule) (a : answer.Answer A) where
  pub not_formed : well_formed s ≡ false → writable s a ≡ answer.refused not_well_formed
  not_formed w = simp w

  pub can_write : well_formed s ≡ true → leaves_gap s ≡ true → writable s a ≡ a
  can_write w g = simp (w, g)

  pub gapless : well_formed s ≡ true → leaves_gap s ≡ false → writable s a ≡ answer.refused no_gap
  gapless w g = simp (w, g)

-- given says that it can be written
pub writable_lem : {A : Type 0} (s : Schedule) {x y : A} → answer.given x ≡ writable s (answer.given y) → (well_formed s ≡ true) × (leaves_gap s ≡ true) × (x ≡ y)
writable_lem s {x} {y} e =
    by_bool (well_formed s)
    (λ w. by_bool (leaves_gap s) (λ g. let z = e ∙ can_write s (answer.given y) w g in (w, g, cc)) (λ g. let z = e ∙ gapless s (answer.given y) w g in absurd cc))
    (λ w. let z = e ∙ not_formed s (answer.given y) w in absurd cc)

-- what a writer promises of its answer and of the output
abbrev pub Answer : Schedule → List ℕ → List ℕ → answer.Answer ℕ → List ℕ → Type 0
Answer s bytes out r exit = (r ≡ writing s bytes (length out)) × (exit ≡ written s bytes out)

module _ (s : Schedule) (bytes out : List ℕ) where
  formed : well_formed s ≡ true → leaves_gap s ≡ true → {r : answer.Answer ℕ} {exit : List ℕ} → Fits bytes out r exit → Answer s bytes out r exit
  unfolding written
  formed w g f = (simp (w, g) f.0, simp (w, g) f.1)

  pub taken : well_formed s ≡ true → leaves_gap s ≡ true → (n : ℕ) → n ≡ length bytes → n ≤ length out → (exit : List ℕ) → exit ≡ sets out 0 bytes
      → Answer s bytes out (answer.given n) exit
  taken w g n e h exit x = formed w g (fits bytes out n e h exit x)

  pub short : well_formed s ≡ true → leaves_gap s ≡ true → (n : ℕ) → n ≡ length bytes → length out < n → Answer s bytes out (answer.refused output_short) out
  short w g n e h = formed w g (no_room bytes out n e h)

  pub no_gap_lem : well_formed s ≡ true → leaves_gap s ≡ false → Answer s bytes out (answer.refused no_gap) out
  unfolding written
  no_gap_lem w g = (simp (w, g), simp (w, g))

  pub wrong : well_formed s ≡ false → Answer s bytes out (answer.refused not_well_formed) out
  unfolding written
  wrong w = (simp w, simp w)

  -- as the code asks: where a list is not writable, that is the refusal
  pub refused : {A : Type 0} {n : ℕ} (x : A) → answer.refused n ≡ writable s (answer.given x) → Answer s bytes out (answer.refused n) out
  refused {A} {n} x e =
      by_bool (well_formed s)
      (λ w.
      by_bool (leaves_gap s) (λ g. let z = e ∙ can_write s (answer.given x) w g in absurd cc)
      (λ g. let z = e ∙ gapless s (answer.given x) w g in let k : n ≡ no_gap = cc in rw k (no_gap_lem w g)))
      (λ w. let z = e ∙ not_formed s (answer.given x) w in let k : n ≡ not_well_formed = cc in rw k (wrong w))
