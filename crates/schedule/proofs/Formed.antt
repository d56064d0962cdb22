-- Laws of a schedule at one of its places.
-- Assumes nothing.
use Rattle.std.proofs.Common.{◌≡◌, ℕ, ◌+◌, ◌<◌, ◌≤◌, ◌∷◌, length, get_or, drop, add-one, drop_of_length-le, drop-cons}
use Rattle.schedule.specs.Schedule.{Schedule, no_leap, expiry_fits, gaps_fit}

-- the leap at a place
pub in_use : (s : Schedule) (i : ℕ) → i < length s.leaps → drop i s.leaps ≡ get_or s.leaps i no_leap ∷ drop (i + 1) s.leaps
in_use s i h = rw (add-one, drop-cons s.leaps i no_leap h)

-- after the last leap the expiry is left
pub gap_last : (s : Schedule) (i : ℕ) → length s.leaps ≤ i → (last expiry : ℕ) → gaps_fit last (drop i s.leaps) expiry ≡ expiry_fits last expiry
unfolding gaps_fit
gap_last s i h last expiry = rw (drop_of_length-le s.leaps h)
