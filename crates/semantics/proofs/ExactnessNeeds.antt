-- What exactness needs: a page with one wide fact, one with a D line, one with a weight below top, one with a P line, and a crisp page with a loop have
-- closed answers with low below high. Assumes nothing.
use mathlib.Core.Path.{◌≡◌, refl, ◌∙◌}
use mathlib.Core.List.{[], ◌∷◌}
use Prim.Native.Nat.{ℕ, ◌<◌}
use native.Mathlib.Omega.{arith}
use Rattle.fixpoint.specs.Interval.{Interval}
use Rattle.fixpoint.specs.Support.{roof, raise}
use Rattle.semantics.specs.Area.{kind, span, lines_ok, all_under, line_codes, area_of, sound_to, defaults_ok, page_of, lines_of}
use Rattle.semantics.specs.Body.{bodies, unknown_by_default, bodyless, largest_of, T}
use Rattle.semantics.specs.Grade.{M, P, rounding, divided, combine, fold_from, fold_all, weighted, negated}
use Rattle.semantics.specs.Page.{positive, negative, fact, rule, default, mentions, lines_name, Page, defaults}
use Rattle.semantics.proofs.Proper.{Proper}
use Rattle.semantics.specs.Reading.{IsClosed, Reads}
use Rattle.semantics.proofs.Rows.{interval}
use Rattle.semantics.specs.Table.{table_from, all_unknown, interval_of, all_below}
use Rattle.semantics.proofs.Bench.{proper}
use Rattle.semantics.proofs.Computed.{closed_list_lem}
use Rattle.semantics.proofs.Readings.{closed_is}
use Rattle.semantics.proofs.Sweeps.{sweep, sweeps, support_list, close_list, rounds, closed_list}
use Rattle.semantics.specs.Layers.{denies, lines_negate, Loops, empty, negate}
use Rattle.semantics.proofs.Layers.{loop_no_layers}
use Rattle.semantics.proofs.RaisedTables.{raise_pass, raised, raised_least}
use Rattle.semantics.proofs.Walks.{largest}

-- a page whose first pass changes nothing has no loop
pub flat_free : (page : Page) → Proper page → raised page 1 ≡ raised page 0 → (c : ℕ) → ¬ Loops page c
flat_free page w e c v = loop_no_layers v (raised_least page w 0 e).layers

pub closed_reads : (page : Page) → Proper page → (c : ℕ) (p : Interval) → c < page.conditions → interval_of (closed_list page) c ≡ p → Reads (IsClosed page) c p
closed_reads page w c p l e = record { some_one = (_, closed_is page w); every_one = λ I k. closed_list_lem page w I k c l ∙ e }

-- F,0,0,1
unfoldable pub page_wide : Page
page_wide = record { top = 1; conditions = 1; lines = fact 0 0 1 ∷ [] }

proper_wide : Proper page_wide
unfolding page_wide
proper_wide = proper page_wide (unfold area_of line_codes sound_to kind span lines_ok all_under defaults_ok defaults all_below page_of lines_of table_from unknown_by_default in refl)

pub wide_fact : ((c : ℕ) → ¬ Loops page_wide c) × Reads (IsClosed page_wide) 0 (interval 0 1)
unfolding page_wide lines_name lines_negate raised raise_pass table_from largest rounding divided combine fold_from fold_all weighted negated bodies unknown_by_default bodyless largest_of T all_unknown sweep sweeps support_list close_list rounds closed_list roof raise defaults
wide_fact = (flat_free page_wide proper_wide refl, closed_reads page_wide proper_wide 0 (interval 0 1) (omega arith) refl)

-- D,0,U
unfoldable pub page_default : Page
page_default = record { top = 1; conditions = 1; lines = default 0 ∷ [] }

pub proper_default : Proper page_default
unfolding page_default
proper_default = proper page_default (unfold area_of line_codes sound_to kind span lines_ok all_under defaults_ok defaults all_below page_of lines_of table_from unknown_by_default in refl)

pub wide_default : ((c : ℕ) → ¬ Loops page_default c) × Reads (IsClosed page_default) 0 (interval 0 1)
unfolding page_default lines_name lines_negate raised raise_pass table_from largest rounding divided combine fold_from fold_all weighted negated bodies unknown_by_default bodyless largest_of T all_unknown sweep sweeps support_list close_list rounds closed_list roof raise defaults
wide_default = (flat_free page_default proper_default refl, closed_reads page_default proper_default 0 (interval 0 1) (omega arith) refl)

-- R,0,1,M,!0
unfoldable pub page_loop : Page
page_loop = record { top = 1; conditions = 1; lines = rule 0 1 M (negative 0 ∷ []) ∷ [] }

proper_loop : Proper page_loop
unfolding page_loop
proper_loop = proper page_loop (unfold area_of line_codes sound_to kind span lines_ok all_under defaults_ok defaults all_below page_of lines_of table_from unknown_by_default in refl)

pub loop_wide : Loops page_loop 0 × Reads (IsClosed page_loop) 0 (interval 0 1)
unfolding page_loop lines_name lines_negate mentions denies table_from rounding divided combine fold_from fold_all weighted negated bodies unknown_by_default bodyless largest_of T all_unknown sweep sweeps support_list close_list rounds closed_list roof raise defaults
loop_wide = (negate {b = 0} refl empty, closed_reads page_loop proper_loop 0 (interval 0 1) (omega arith) refl)

-- G,2,2; F,0,1,1; R,1,1,M,0: half of 1
unfoldable pub page_weight : Page
page_weight = record { top = 2; conditions = 2; lines = fact 0 1 1 ∷ rule 1 1 M (positive 0 ∷ []) ∷ [] }

proper_weight : Proper page_weight
unfolding page_weight
proper_weight = proper page_weight (unfold area_of line_codes sound_to kind span lines_ok all_under defaults_ok defaults all_below page_of lines_of table_from unknown_by_default in refl)

pub weight_wide : ((c : ℕ) → ¬ Loops page_weight c) × Reads (IsClosed page_weight) 1 (interval 0 1)
unfolding page_weight lines_name lines_negate mentions denies raised raise_pass table_from largest rounding divided combine fold_from fold_all weighted negated bodies unknown_by_default bodyless largest_of T all_unknown sweep sweeps support_list close_list rounds closed_list roof raise defaults
weight_wide = (flat_free page_weight proper_weight refl, closed_reads page_weight proper_weight 1 (interval 0 1) (omega arith) refl)

-- G,2,2; F,0,1,1; R,1,2,P,0,0: 1 × 1 divided by 2
unfoldable pub page_p : Page
page_p = record { top = 2; conditions = 2; lines = fact 0 1 1 ∷ rule 1 2 P (positive 0 ∷ positive 0 ∷ []) ∷ [] }

proper_p : Proper page_p
unfolding page_p
proper_p = proper page_p (unfold area_of line_codes sound_to kind span lines_ok all_under defaults_ok defaults all_below page_of lines_of table_from unknown_by_default in refl)

pub p_wide : ((c : ℕ) → ¬ Loops page_p c) × Reads (IsClosed page_p) 1 (interval 0 1)
unfolding page_p lines_name lines_negate mentions denies raised raise_pass table_from largest rounding divided combine fold_from fold_all weighted negated bodies unknown_by_default bodyless largest_of T all_unknown sweep sweeps support_list close_list rounds closed_list roof raise defaults
p_wide = (flat_free page_p proper_p refl, closed_reads page_p proper_p 1 (interval 0 1) (omega arith) refl)
