-- Lines written one after the other. Assumes nothing.
use mathlib.Core.Path.{◌≡◌, refl, sym, ◌∙◌, ap}
use mathlib.Core.List.{List, [], ◌∷◌, ◌++◌, append_assoc, append-nil}
use Prim.Native.Nat.{ℕ, ◌+◌, ◌≤◌}
use native.Mathlib.Omega.{arith}
use lib.ListN.{length, length-append}
use lib.Seq.{length-sets}
use Rattle.semantics.specs.Page.{Line}
use Rattle.semantics.specs.Area.{line_code, line_codes}
use Rattle.print.specs.Wrote.{Wrote}
use Rattle.print.proofs.Writing.{wrote_none, wrote_then, wrote_as}
use Rattle.change.specs.Written.{LinesWrote, PutsLines}
use Rattle.change.specs.declared.Entries.{Entries}

pub codes_append : (ks ls : List Line) → line_codes (ks ++ ls) ≡ line_codes ks ++ line_codes ls
unfolding line_codes
codes_append [] ls = refl
codes_append (k ∷ ks) ls = ap (λ (l : List ℕ). line_code k ++ l) (codes_append ks ls) ∙ sym (append_assoc (line_code k) (line_codes ks) (line_codes ls))

pub one_code : (l : Line) → line_codes (l ∷ []) ≡ line_code l
unfolding line_codes
one_code l = append-nil (line_code l)

pub lines_none : (area : List ℕ) (at count : ℕ) → at ≤ length area → LinesWrote area at count [] area at count
unfolding line_codes
lines_none area at count h = record { codes = wrote_none area at h; counted = omega arith }

-- one line
pub lines_one : {area area' : List ℕ} {at r n n' : ℕ} (l : Line) → Wrote area at (line_code l) area' r → n' ≡ n + 1 → LinesWrote area at n (l ∷ []) area' r n'
lines_one l w h = record { codes = wrote_as (sym (one_code l)) w; counted = h }

-- lines behind lines
pub lines_then : {area area₁ area₂ : List ℕ} {ks ls : List Line} {at m r n n₁ n₂ : ℕ} → LinesWrote area at n ks area₁ m n₁ → LinesWrote area₁ m n₁ ls area₂ r n₂
    → LinesWrote area at n (ks ++ ls) area₂ r n₂
lines_then {area} {area₁} {area₂} {ks} {ls} {at} {m} {r} {n} {n₁} {n₂} p q =
    record { codes = wrote_as (sym (codes_append ks ls)) (wrote_then p.codes q.codes); counted = omega (arith, p.counted, q.counted, length-append ks ls) }

-- a write leaves the length of the area
pub wrote_length : {area area' vs : List ℕ} {at r : ℕ} → Wrote area at vs area' r → length area' ≡ length area
wrote_length {area} {area'} {vs} {at} w = ap length w.is ∙ length-sets area at vs

pub lines_length_lem : {area area' : List ℕ} {ls : List Line} {at r n n' : ℕ} → LinesWrote area at n ls area' r n' → length area' ≡ length area
lines_length_lem w = wrote_length w.codes

-- the same lines
pub lines_as : {area area' : List ℕ} {ks ls : List Line} {at r n n' : ℕ} → ks ≡ ls → LinesWrote area at n ks area' r n' → LinesWrote area at n ls area' r n'
lines_as {area} {area'} {ks} {ls} {at} {r} {n} {n'} e w = rw e at w

-- the same of the entries of an area
pub puts_then : {t t₁ t₂ : Entries} {ks ls : List Line} → PutsLines t ks t₁ → PutsLines t₁ ls t₂ → PutsLines t (ks ++ ls) t₂
puts_then p q = record { same = q.same ∙ p.same; wrote = lines_then p.wrote q.wrote }

pub puts_as : {t t' : Entries} {ks ls : List Line} → ks ≡ ls → PutsLines t ks t' → PutsLines t ls t'
puts_as e p = record { same = p.same; wrote = lines_as e p.wrote }
