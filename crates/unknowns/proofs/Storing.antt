-- The loop over the conditions that stores an entry for each one sought: what stands before c is what f makes of the entry. Assumes nothing.
use mathlib.Core.Path.{◌≡◌, sym, ◌∙◌, ap}
use mathlib.Core.Logic.{◌≢◌}
use mathlib.Core.Bool.{Bool, true, false, true≢false}
use mathlib.Core.List.{List}
use Prim.Native.Nat.{ℕ, ◌+◌, ◌≤◌, ◌<◌}
use native.Mathlib.Decide.{ℕ_discrete}
use native.Mathlib.Omega.{arith}
use lib.ListN.{get_or, set, length-set}
use lib.Seq.{get_or-set_same, get_or-set_other}
use Rattle.semantics.specs.Area.{conditions_of}
use Rattle.unknowns.specs.NextHighs.{sought, Places, Steady}

module _ (a : List ℕ) (m : List Bool) where
  pub steady_on : {next next' next'' : List ℕ} → Steady a m next next' → Steady a m next' next'' → Steady a m next next''
  steady_on u v = record { same_length = v.same_length ∙ u.same_length; others = λ c h. v.others c h ∙ u.others c h }

  -- the entry of a condition sought is stored
  pub steady_set : (next : List ℕ) (h x : ℕ) → h < conditions_of a → sought a m h ≡ true → Steady a m next (set next h x)
  steady_set next h x l q =
      record {
        same_length = length-set next h x;
        others = λ c f. get_or-set_other next h c x 0 (λ z. true≢false (sym q ∙ ap (sought a m) (sym z) ∙ f (omega (arith, l, z))));
      }

  pub places_on : {next next' : List ℕ} → Places a m next → Steady a m next next' → Places a m next'
  places_on p v = record { marked = p.marked; long = omega (arith, p.long, v.same_length) }

-- the conditions before c have what f makes of their entry
module _ (a : List ℕ) (m : List Bool) (f : ℕ → ℕ → ℕ) (next₀ : List ℕ) where
  pub record Storing (next : List ℕ) (c : ℕ) : Type 0 where
    pub places : Places a m next₀
    pub within : c ≤ conditions_of a
    pub steady : Steady a m next₀ next
    pub done : (d : ℕ) → d < c → sought a m d ≡ true → get_or next d 0 ≡ f d (get_or next₀ d 0)
    pub later : (d : ℕ) → c ≤ d → get_or next d 0 ≡ get_or next₀ d 0

  module _ {next : List ℕ} {c : ℕ} (v : Storing next c) (l : c < conditions_of a) where
    -- what f makes of the entry of c is stored, if c is sought
    pub stored_here : {x : ℕ} → sought a m c ≡ true → x ≡ f c (get_or next c 0) → Storing (set next c x) (c + 1)
    stored_here {x} q e =
        record {
          places = v.places;
          within = omega arith;
          steady = steady_on a m v.steady (steady_set a m next c x l q);
          done = λ d k r. elim (ℕ_discrete d c) [
            | yes z ↦ rw z (get_or-set_same next c x 0 (omega (arith, v.places.long, v.steady.same_length)) ∙ e ∙ ap (f c) (v.later c (omega arith)))
            | no z ↦ get_or-set_other next c d x 0 z ∙ v.done d (omega arith) r
          ];
          later = λ d k. get_or-set_other next c d x 0 (λ z. absurd (omega arith)) ∙ v.later d (omega arith);
        }

    pub kept_here : sought a m c ≡ false → Storing next (c + 1)
    kept_here q =
        record {
          places = v.places;
          within = omega arith;
          steady = v.steady;
          done = λ d k r. v.done d (let n : d ≢ c = λ z. true≢false (sym r ∙ ap (sought a m) z ∙ q) in omega arith) r;
          later = λ d k. v.later d (omega arith);
        }
