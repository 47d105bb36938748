-- The worked rows of the check hold: one test over the list, computed. Assumes nothing.
use mathlib.Core.Path.{◌≡◌, refl, sym, ◌∙◌, ap, subst}
use mathlib.Core.Bool.{Bool, true, false, not, ◌&&◌}
use mathlib.Core.List.{List, [], ◌∷◌, ◌++◌}
use mathlib.Core.Option.{none, some}
use Prim.Native.Nat.{ℕ, zero, suc, ◌-◌, ◌<◌}
use native.Mathlib.Decide.{ℕ_discrete}
use native.Mathlib.Omega.{arith}
use lib.Dec.{ltb}
use lib.ListN.{drop}
use borrow.Author.Tests.{ltb-true, not-true}
use Rattle.fixpoint.specs.KnowledgeOrder.{bottom}
use Rattle.fixpoint.specs.LeastFixpoint.{iter, lfp}
use Rattle.semantics.specs.Area.{kind, span, lines_of, page_of, every, all_under, lines_ok, sound_to, sound, defaults_ok}
use Rattle.semantics.specs.Call.{first_of}
use Rattle.semantics.specs.Layers.{denies, lines_negate, negates, name, negate, empty, Loops, refused_layers, loops_at, layered, layers_causes, LayersWritten, LayersOf}
use Rattle.semantics.specs.Page.{mentions, lines_name, Page, names, defaults}
use Rattle.semantics.specs.Table.{table_from, all_below}
use Rattle.semantics.proofs.Same.{same_list, same_numbers, same_numbers_lem, same_cause, same_cause_lem}
use Rattle.semantics.proofs.Soundness.{sound_proper, both_true, Every, every_true}
use Rattle.semantics.proofs.Walks.{largest, spread, far}
use Rattle.semantics.proofs.Layers.{far_lowest}
use Rattle.semantics.proofs.RaisedTables.{raise_pass, raised, raised_written}
use Rattle.semantics.proofs.LayersRows.{LayersRow, checks, LayersHold, area_back, area_self, area_two, area_three, area_plain, layers_rows}

-- whether a chain through a negation leads from c back to c
abbrev loops? : Page → ℕ → Bool
loops? page c = far page.conditions (names page) (negates page) c c

abbrev tests : LayersRow → List Bool
tests (checks a s (refused_layers k) left) = same_cause (first_of (layers_causes a s)) (some k) ∷ same_numbers left s ∷ []
tests (checks a s (loops_at c) left) =
    same_cause (first_of (layers_causes a s)) none
    ∷ sound a
    ∷ ltb c (page_of a).conditions
    ∷ loops? (page_of a) c
    ∷ all_below c (λ b. not (loops? (page_of a) b))
    ∷ same_numbers left s
    ∷ []
tests (checks a s layered left) =
    let page = page_of a in
    same_cause (first_of (layers_causes a s)) none
    ∷ sound a
    ∷ same_numbers (raised page page.conditions) (raised page (page.conditions - 1))
    ∷ same_numbers left (raised page (page.conditions - 1) ++ drop page.conditions s)
    ∷ []

none_below : (c : ℕ) (p : ℕ → Bool) → all_below c (λ b. not (p b)) ≡ true → (b : ℕ) → b < c → p b ≡ false
unfolding all_below
none_below zero p e b l = absurd (omega arith)
none_below (suc c) p e b l =
    let h = both_true (all_below c (λ b. not (p b))) (not (p c)) e in
    elim (ℕ_discrete b c) [
      | yes q ↦ ap p q ∙ not-true (p c) h.1
      | no q ↦ none_below c p h.0 b (omega arith)
    ]

passed : (r : LayersRow) (rs : List LayersRow) → Every (tests r) → LayersHold rs → LayersHold (r ∷ rs)
unfolding LayersOf
passed (checks a s (refused_layers k) left) rs z more = (rw (same_cause_lem _ _ z.0) (refl, same_numbers_lem _ _ z.1.0), more)
passed (checks a s (loops_at c) left) rs z more =
    let w = sound_proper a z.1.0 in
    let p = page_of a in
    (rw (same_cause_lem _ _ z.0) (far_lowest p w c (ltb-true c p.conditions z.1.1.0) z.1.1.1.0 (none_below c (loops? p) z.1.1.1.1.0), same_numbers_lem _ _ z.1.1.1.1.1.0), more)
passed (checks a s layered left) rs z more =
    let w = sound_proper a z.1.0 in
    let p = page_of a in
    let e : suc (p.conditions - 1) ≡ p.conditions = omega (arith, w.conditions_least) in
    let h = raised_written p w (p.conditions - 1) (ap (raised p) e ∙ same_numbers_lem _ _ z.1.1.0) s in
    (rw (same_cause_lem _ _ z.0) (subst (LayersWritten p s) (sym (same_numbers_lem _ _ z.1.1.1.0)) h), more)

test : List LayersRow → Bool
test [] = true
test (r ∷ rs) = every (tests r) && test rs

law : (rs : List LayersRow) → test rs ≡ true → LayersHold rs
unfolding test
law [] e = tt
law (r ∷ rs) e = let h = both_true (every (tests r)) (test rs) e in passed r rs (every_true (tests r) h.0) (law rs h.1)

computed : test layers_rows ≡ true
unfolding layers_rows area_back area_self area_two area_three area_plain test same_list same_cause sound_to kind span lines_ok all_under page_of lines_of all_below mentions lines_name denies lines_negate far spread lfp iter bottom largest raised raise_pass table_from defaults_ok defaults
computed = refl

pub layers_bench : LayersHold layers_rows
layers_bench = law layers_rows computed

-- C passes need not show a layer of C: 0 names 1, 1 names !0. Pass 2 still changes something, and that shows the loop (`late_change`).
unfoldable pub area_slow : List ℕ
area_slow = 1 ∷ 2 ∷ 2 ∷ 16 ∷ 0 ∷ 0 ∷ 0 ∷ 1 ∷ 1 ∷ 1 ∷ 2 ∷ 1 ∷ 1 ∷ 1 ∷ 1 ∷ 1 ∷ []

pub slow_loop : (raised (page_of area_slow) 1 ≡ 0 ∷ 1 ∷ []) × (raised (page_of area_slow) 2 ≡ 1 ∷ 1 ∷ []) × Loops (page_of area_slow) 0
unfolding area_slow page_of lines_of kind span mentions lines_name denies lines_negate raised raise_pass table_from largest
slow_loop = (refl, refl, name {b = 1} refl (negate {b = 0} refl empty))
