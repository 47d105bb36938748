-- An op over both ends of literals, in the code's own terms: what the op of a kind makes of two grades, and the state of the loop. Assumes nothing.
use mathlib.Core.Path.{◌≡◌, sym, ◌∙◌, ap}
use mathlib.Core.List.{List}
use Prim.Native.Nat.{ℕ, ◌+◌, ◌-◌, ◌≤◌, ◌<◌}
use native.Mathlib.Omega.{arith}
use lib.ListN.{length, get_or}
use Rattle.semantics.specs.Area.{kind, rule_kind}
use Rattle.semantics.specs.Grade.{End, lower, upper, Op, combine}
use Rattle.semantics.proofs.Ops.{combine_bounded}
use Rattle.page.proofs.Scan.{rule_kind_lem}
use Rattle.value.proofs.Folds.{Folding, folding_next}
use Rattle.ends.specs.Mirror.{flip, mirrored, BothFoldable}
use Rattle.ends.proofs.Mirrors.{mirrored_at}

-- r is what the op of the kind makes of two grades
module _ (top k p q : ℕ) (e : End) where
  abbrev OfKind : ℕ → Type 0
  OfKind r = (op : Op) → kind k ≡ rule_kind op → r ≡ combine top op e p q

module _ (codes : List ℕ) (k : ℕ) (values : List ℕ) (top first_low first_high : ℕ) where
  -- the state after j literals
  pub record FoldingBoth (low high j : ℕ) : Type 0 where
    pub ready : BothFoldable top codes values first_low first_high
    pub least : 1 ≤ k
    pub most : k ≤ 5
    pub within : j ≤ length codes
    pub low_in : low ≤ top
    pub high_in : high ≤ top
    pub low_is : (op : Op) → kind k ≡ rule_kind op → Folding (combine top op lower) codes values first_low low j
    pub high_is : (op : Op) → kind k ≡ rule_kind op → Folding (combine top op upper) codes (mirrored top values) first_high high j

  module _ {low high j : ℕ} (s : FoldingBoth low high j) (l : j < length codes) where
    abbrev code : ℕ
    code = get_or codes j 0

    pub number_in : get_or values code 0 ≤ top
    number_in = s.ready.low.grades j l

    pub high_number : get_or (mirrored top values) code 0 ≡ top - get_or values (flip code) 0
    high_number = mirrored_at top values code (s.ready.low.listed j l)

    pub both_next : {low' high' q : ℕ} → OfKind top k low (get_or values code 0) lower low' → q ≡ top - get_or values (flip code) 0 → OfKind top k high q upper high' → FoldingBoth low' high' (j + 1)
    both_next {low'} {high'} {q} f d g =
        let o = rule_kind_lem k s.least s.most in
        let d' : q ≡ get_or (mirrored top values) code 0 = d ∙ sym high_number in
        record {
          ready = s.ready;
          least = s.least;
          most = s.most;
          within = omega arith;
          low_in = rw (f o.0 o.1) (combine_bounded top o.0 lower s.low_in number_in);
          high_in = rw (g o.0 o.1) (combine_bounded top o.0 upper s.high_in (omega arith));
          low_is = λ op h. folding_next _ _ _ _ (s.low_is op h) l (f op h);
          high_is = λ op h. folding_next _ _ _ _ (s.high_is op h) l (g op h ∙ ap (λ (x : ℕ). combine top op upper high x) d');
        }
