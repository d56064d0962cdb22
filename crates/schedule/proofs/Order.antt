-- Extension orders lists: it is transitive, lists with a common extension are comparable, and lists that extend each other are equal.
-- Assumes nothing.
use Rattle.std.proofs.Common.{◌≡◌, ℕ, ◌≤◌, true, cond, ◌⊎◌, List, [], ◌∷◌, sym, refl, ap, ◌∙◌, inl, inr, arith}
use native.Mathlib.Decide.{dec_le}
use Rattle.schedule.specs.Schedule.{Leap, Schedule, is_expired, well_formed}
use Rattle.schedule.specs.Extends.{below, Extends}
use Rattle.schedule.proofs.Cases.{by_bool}
use Rattle.schedule.proofs.Expired.{is_expired_lem, expired_from}
use Rattle.schedule.proofs.Extension.{extends_itself}

-- the leaps below an expiry, of those below a later one
below_below : (m n : ℕ) (ls : List Leap) → m ≤ n → below m (below n ls) ≡ below m ls
unfolding below
below_below m n [] h = refl
below_below m n (l ∷ ls) h =
    by_bool (is_expired n l.month)
    (λ t. rw (t, is_expired_lem m l.month (omega (arith, expired_from n l.month t))) (below_below m n ls h))
    (λ f. rw f (ap (λ (xs : List Leap). cond (is_expired m l.month) xs (l ∷ xs)) (below_below m n ls h)))

-- what extends a longer list extends the shorter one
pub extends_on : (r a b : Schedule) → Extends r a → Extends a b → Extends r b
extends_on r a b p q =
    record {
      same = sym (below_below b.expiry a.expiry r.leaps q.later) ∙ (ap (below b.expiry) p.same ∙ q.same);
      later = omega (arith, p.later, q.later);
    }

-- of two lists that one list extends, that with the later expiry extends the other
shared : (r a b : Schedule) → Extends r a → Extends r b → b.expiry ≤ a.expiry → Extends a b
shared r a b p q h =
    record {
      same = ap (below b.expiry) (sym p.same) ∙ (below_below b.expiry a.expiry r.leaps h ∙ q.same);
      later = h;
    }

-- of two lists that one list extends, one extends the other
pub comparable : (r a b : Schedule) → Extends r a → Extends r b → Extends a b ⊎ Extends b a
comparable r a b p q =
    elim (dec_le b.expiry a.expiry) [
      | yes h ↦ inl (shared r a b p q h)
      | no h ↦ inr (shared r b a q p (omega arith))
    ]

-- well-formed schedules that extend each other are equal
pub both_ways : (a b : Schedule) → well_formed a ≡ true → Extends a b → Extends b a → a ≡ b
both_ways a b w p q =
    let e : a.expiry ≡ b.expiry = omega (arith, p.later, q.later) in
    let same : a.leaps ≡ b.leaps = sym (extends_itself a w).same ∙ (ap (λ (m : ℕ). below m a.leaps) e ∙ p.same) in
    λ i. record { leaps = same i; expiry = e i }
