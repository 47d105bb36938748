-- The area of the page that a trial changes. Assumes nothing.
use mathlib.Core.Path.{◌≡◌, refl, sym, ◌∙◌, ap, ap₂}
use mathlib.Core.Bool.{true}
use mathlib.Core.List.{List, [], ◌∷◌, ◌++◌}
use mathlib.Core.Option.{Option, none, some}
use Prim.Native.Nat.{ℕ, zero, suc, ◌+◌}
use native.Mathlib.Omega.{arith}
use lib.Dec.{leb}
use lib.ListN.{length, take, drop, set}
use lib.Seq.{take-take, take_at, length-take-le}
use Rattle.fixpoint.specs.Interval.{Interval}
use Rattle.fixpoint.specs.Sum.{bit}
use Rattle.semantics.specs.Page.{Line, fact, rule, query, default, Page, defaults}
use Rattle.semantics.specs.Table.{table}
use Rattle.semantics.specs.Body.{unknown_by_default}
use Rattle.semantics.specs.Area.{sound, page_of, head_length, first_line, top_of, conditions_of, used_of, line_codes, area_of}
use Rattle.semantics.specs.Trials.{TrialLine, tried, kept_if, kept_lines, fact_if, tried_facts, changed_page}
use Rattle.semantics.proofs.Table.{length_from}
use Rattle.semantics.proofs.RoundTrip.{four_more, default_numbers}
use Rattle.semantics.proofs.ExactAreas.{sound_exact}
use Rattle.print.specs.Wrote.{Wrote}
use Rattle.print.proofs.Writing.{wrote_then, wrote_front}
use Rattle.change.specs.Written.{LinesWrote}
use Rattle.change.proofs.Lines.{lines_then}
use Rattle.change.proofs.Keeping.{bounds}

-- a trial takes out and puts in no D line
defaults_append : (ks ls : List Line) (c : ℕ) → defaults (ks ++ ls) c ≡ defaults ks c + defaults ls c
unfolding defaults
defaults_append [] ls c = omega arith
defaults_append (fact d l h ∷ ks) ls c = defaults_append ks ls c
defaults_append (rule d w op lits ∷ ks) ls c = defaults_append ks ls c
defaults_append (query r d ∷ ks) ls c = defaults_append ks ls c
defaults_append (default d ∷ ks) ls c = omega (arith, defaults_append ks ls c)

module _ (ts : List TrialLine) (c : ℕ) where
  if_none : (o : Option Interval) (d l h : ℕ) → defaults (kept_if o (fact d l h)) c ≡ 0
  unfolding defaults
  if_none none d l h = refl
  if_none (some p) d l h = refl

  kept_defaults : (ls : List Line) → defaults (kept_lines ts ls) c ≡ defaults ls c
  unfolding kept_lines defaults
  kept_defaults [] = refl
  kept_defaults (fact d l h ∷ ls) =
      omega (arith, defaults_append (kept_if (tried ts d) (fact d l h)) (kept_lines ts ls) c, if_none (tried ts d) d l h, kept_defaults ls)
  kept_defaults (rule d w op lits ∷ ls) = kept_defaults ls
  kept_defaults (query r d ∷ ls) = kept_defaults ls
  kept_defaults (default d ∷ ls) = omega (arith, kept_defaults ls)

  fact_defaults : (d : ℕ) (o : Option Interval) → defaults (fact_if d o) c ≡ 0
  unfolding defaults
  fact_defaults d none = refl
  fact_defaults d (some p) = refl

  tried_defaults : (n k : ℕ) → defaults (tried_facts ts n k) c ≡ 0
  unfolding tried_facts defaults
  tried_defaults zero k = refl
  tried_defaults (suc n) k =
      omega (arith, defaults_append (fact_if k (tried ts k)) (tried_facts ts n (suc k)) c, fact_defaults k (tried ts k), tried_defaults n (suc k))

  pub changed_default : (page : Page) → unknown_by_default (changed_page page ts) c ≡ unknown_by_default page c
  unfolding unknown_by_default changed_page
  changed_default page =
      let e : defaults (kept_lines ts page.lines ++ tried_facts ts page.conditions 0) c ≡ defaults page.lines c =
      omega (arith, defaults_append (kept_lines ts page.lines) (tried_facts ts page.conditions 0) c, kept_defaults page.lines, tried_defaults page.conditions 0) in
      ap (leb 1) e

pub changed_numbers : (page : Page) (ts : List TrialLine) → default_numbers (changed_page page ts) ≡ default_numbers page
unfolding changed_page
changed_numbers page ts = λ i. table page.conditions (λ c. bit (changed_default ts c page i))

-- the numbers before the lines
area_head : (page : Page) → take (head_length page.conditions) (area_of page)
    ≡ page.top ∷ page.conditions ∷ length page.lines ∷ (head_length page.conditions + length (line_codes page.lines)) ∷ default_numbers page
unfolding area_of
area_head page =
    ap (λ (k : ℕ). take k (area_of page)) (four_more page.conditions)
    ∙ ap (λ (ds : List ℕ). page.top ∷ page.conditions ∷ length page.lines ∷ (head_length page.conditions + length (line_codes page.lines)) ∷ ds)
    (take_at (default_numbers page) (line_codes page.lines) page.conditions (length_from page.conditions 0 (λ c. bit (unknown_by_default page c))))

head_numbers : (a : List ℕ) → sound a ≡ true
    → take (first_line a) a ≡ top_of a ∷ conditions_of a ∷ length (page_of a).lines ∷ (first_line a + length (line_codes (page_of a).lines)) ∷ default_numbers (page_of a)
unfolding page_of
head_numbers a e =
    sym (take-take (first_line a) (used_of a) a (bounds a e).first) ∙ ap (take (first_line a)) (sound_exact a e) ∙ area_head (page_of a)

-- the head of the page, its lines that stay, the facts of the trial, then the count of lines and the used length
module _ (a : List ℕ) (ts : List TrialLine) (ok : sound a ≡ true) where
  abbrev lines : List Line
  lines = kept_lines ts (page_of a).lines ++ tried_facts ts (conditions_of a) 0

  abbrev rest : List ℕ → ℕ → List ℕ
  rest area m = (default_numbers (page_of a) ++ line_codes lines) ++ drop m area

  changed_area_lem : (area : List ℕ) → area_of (changed_page (page_of a) ts) ++ drop (used_of (area_of (changed_page (page_of a) ts))) area
      ≡ top_of a ∷ conditions_of a ∷ length lines ∷ (first_line a + length (line_codes lines)) ∷ rest area (first_line a + length (line_codes lines))
  unfolding area_of changed_page page_of
  changed_area_lem area =
      let used : ℕ = first_line a + length (line_codes lines) in
      ap (λ (ds : List ℕ). top_of a ∷ conditions_of a ∷ length lines ∷ used ∷ ((ds ++ line_codes lines) ++ drop used area)) (changed_numbers (page_of a) ts)

  module _ {area₀ area₁ area₂ area₃ : List ℕ} {m r₁ e₂ k₂ e₃ k₃ : ℕ} (f : m ≡ first_line a) (w₁ : Wrote area₀ 0 (take m a) area₁ r₁)
      (w₂ : LinesWrote area₁ r₁ 0 (kept_lines ts (page_of a).lines) area₂ e₂ k₂) (w₃ : LinesWrote area₂ e₂ k₂ (tried_facts ts (conditions_of a) 0) area₃ e₃ k₃) where
    behind_head : r₁ ≡ first_line a
    behind_head = let b = bounds a ok in omega (arith, w₁.behind, f, length-take-le m a (omega (arith, f, b.first, b.inside)))

    all_lines : LinesWrote area₁ (first_line a) 0 lines area₃ e₃ k₃
    all_lines = rw behind_head at (lines_then w₂ w₃)

    written : Wrote area₀ 0 (take m a ++ line_codes lines) area₃ e₃
    written = wrote_then w₁ (rw behind_head all_lines.codes)

    front : area₃ ≡ top_of a ∷ conditions_of a ∷ length (page_of a).lines ∷ (first_line a + length (line_codes (page_of a).lines)) ∷ rest area₀ e₃
    front =
        let e : length (take m a ++ line_codes lines) ≡ e₃ = omega (arith, written.behind) in
        wrote_front written
        ∙ ap₂ {C = List ℕ} (λ h k. (h ++ line_codes lines) ++ drop k area₀) (ap (λ (k : ℕ). take k a) f ∙ head_numbers a ok) e

    pub changed : (area : List ℕ) → area ≡ area₃ → set (set area 2 k₃) 3 e₃ ≡ area_of (changed_page (page_of a) ts) ++ drop (used_of (area_of (changed_page (page_of a) ts))) area₀
    changed area same =
        let k : k₃ ≡ length lines = omega (arith, all_lines.counted) in
        ap (λ (l : List ℕ). set (set l 2 k₃) 3 e₃) (same ∙ front)
        ∙ ap₂ {C = List ℕ} (λ k e. top_of a ∷ conditions_of a ∷ k ∷ e ∷ rest area₀ e) k all_lines.codes.behind ∙ sym (changed_area_lem area₀)
