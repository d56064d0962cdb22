-- The bytes of a comparison's lines, as the code puts them.
-- Assumes nothing.
use mathlib.Core.Path.{◌≡◌, refl, sym, ap}
use mathlib.Core.Bool.{Bool, true}
use mathlib.Core.List.{List, [], ◌∷◌, ◌++◌, append_assoc, append-nil}
use Prim.Native.Nat.{ℕ, zero, suc, ◌+◌}
use lib.Dec.{eqb}
use Rattle.ascii.specs.Ascii.{ascii}
use Rattle.ascii.specs.Decimal.{decimal}
use Rattle.ascii.specs.Lines.{newline, space_byte, between}
use Rattle.schedule.specs.Schedule.{Schedule}
use Rattle.schedule.proofs.Cases.{by_bool}
use Rattle.compare.specs.Compare.{Line, mark, has_line, line_at, month_lines, expiry_lines, relation, lines_of, told, in_lines, joined, compared}
use Rattle.compare.specs.Private.{month_bytes, months_bytes, expiry_bytes, comparison}

-- lines in bytes, each with the same bytes after it
unfoldable ended_by : List ℕ → List Line → List ℕ
ended_by end [] = []
ended_by end (l ∷ ls) = told l ++ (end ++ ended_by end ls)

ended_append : (end : List ℕ) (xs ys : List Line) → ended_by end (xs ++ ys) ≡ ended_by end xs ++ ended_by end ys
unfolding ended_by
ended_append end [] ys = refl
ended_append end (x ∷ xs) ys = rw (ended_append end xs ys) (simp append_assoc)

month_ended : (end : List ℕ) (a b : Schedule) (m : ℕ) → ended_by end (line_at a b m) ≡ month_bytes end a b m
unfolding ended_by line_at month_bytes
month_ended end a b m =
    by_bool (has_line a b m) (λ t. rw (t, append-nil) (append_assoc (decimal m) (space_byte ∷ mark a m ∷ space_byte ∷ mark b m ∷ []) end)) (λ f. rw f)

months_ended : (end : List ℕ) (a b : Schedule) (m n : ℕ) → ended_by end (month_lines a b m n) ≡ months_bytes end a b m n
unfolding ended_by month_lines months_bytes
months_ended end a b m zero = refl
months_ended end a b m (suc n) =
    rw (ended_append end (line_at a b m) (month_lines a b (m + 1) n), month_ended end a b m, months_ended end a b (m + 1) n)

expiries_ended : (end : List ℕ) (a b : Schedule) → ended_by end (expiry_lines a b) ≡ expiry_bytes end a b
unfolding ended_by expiry_lines expiry_bytes
expiries_ended end a b = by_bool (eqb a.expiry b.expiry) (λ t. rw t) (λ f. rw (f, append-nil) (ap (λ (xs : List ℕ). ascii "= " ++ xs) (append_assoc (decimal a.expiry) (space_byte ∷ decimal b.expiry) end)))

-- all lines before the last
ended_all : (end : List ℕ) (a b : Schedule) → ended_by end (month_lines a b 0 2401 ++ expiry_lines a b) ≡ months_bytes end a b 0 2401 ++ expiry_bytes end a b
ended_all end a b = rw (ended_append end (month_lines a b 0 2401) (expiry_lines a b), months_ended end a b 0 2401, expiries_ended end a b)

last_joined : (sep : List ℕ) (ls : List Line) (l : Line) → joined sep (ls ++ (l ∷ [])) ≡ ended_by sep ls ++ told l
unfolding joined ended_by
last_joined sep [] l = refl
last_joined sep (k ∷ []) l = rw append-nil (simp append_assoc)
last_joined sep (k ∷ j ∷ js) l = rw (last_joined sep (j ∷ js) l) (simp append_assoc)

last_ended : (ls : List Line) (l : Line) → in_lines (ls ++ (l ∷ [])) ≡ (ended_by (newline ∷ []) ls ++ told l) ++ (newline ∷ [])
unfolding in_lines ended_by
last_ended [] l = refl
last_ended (k ∷ ks) l = rw (last_ended ks l) (simp append_assoc)

split_last : (a b : Schedule) → lines_of a b ≡ (month_lines a b 0 2401 ++ expiry_lines a b) ++ (relation a b ∷ [])
unfolding lines_of
split_last a b = sym (append_assoc (month_lines a b 0 2401) (expiry_lines a b) (relation a b ∷ []))

-- the lines with something between them are what the code puts
pub joined_bytes : (lines : Bool) (a b : Schedule) → joined (between lines) (lines_of a b) ≡ comparison lines a b
unfolding comparison
joined_bytes lines a b =
    rw (split_last a b, last_joined (between lines) (month_lines a b 0 2401 ++ expiry_lines a b) (relation a b), ended_all (between lines) a b)
    (append_assoc (months_bytes (between lines) a b 0 2401) (expiry_bytes (between lines) a b) (told (relation a b)))

-- and LF ended they are that with one LF more
pub compared_bytes : (a b : Schedule) → compared a b ≡ comparison true a b ++ (newline ∷ [])
unfolding compared comparison between
compared_bytes a b =
    rw (split_last a b, last_ended (month_lines a b 0 2401 ++ expiry_lines a b) (relation a b), ended_all (newline ∷ []) a b)
    (ap (λ (xs : List ℕ). xs ++ (newline ∷ [])) (append_assoc (months_bytes (newline ∷ []) a b 0 2401) (expiry_bytes (newline ∷ []) a b) (told (relation a b))))
