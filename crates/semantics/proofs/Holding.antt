-- Which line holds the low end: a condition with F or R lines is told one of them, it has the new low, and no earlier one has. Assumes nothing.
use mathlib.Core.Path.{◌≡◌, refl, sym, ◌∙◌, ap}
use mathlib.Core.Logic.{◌≢◌, ◌⊎◌, inl, inr, ⊎_elim}
use mathlib.Core.Bool.{Bool, true, false, false≢true, true≢false}
use mathlib.Core.List.{List, [], ◌∷◌}
use Prim.Native.Nat.{ℕ, suc, ◌≤◌}
use native.Mathlib.Decide.{ℕ_discrete, dec_le}
use native.Mathlib.Omega.{arith}
use borrow.Author.Tests.{eqb-true, eq-eqb, ne_eqb}
use Rattle.fixpoint.specs.Interval.{Interval, Assign}
use Rattle.semantics.specs.Body.{rule_value, line_body, bodies, bodyless, largest_of, T}
use Rattle.semantics.specs.Grade.{Op, fold_from, largest}
use Rattle.semantics.specs.Holding.{has_low, first_with, line_holding}
use Rattle.semantics.specs.Page.{Literal, Line, fact, rule, query, default, Page}

-- l has the number k among lines of which the first has the number j
pub data Numbered : ℕ → List Line → ℕ → Line → Type 0 where
  here : {j : ℕ} {l : Line} {ls : List Line} → Numbered j (l ∷ ls) j l
  behind : {j k : ℕ} {l first : Line} {ls : List Line} → Numbered (suc j) ls k l → Numbered j (first ∷ ls) k l

-- an F or R line of c
pub data BodyLine (c : ℕ) : Line → Type 0 where
  fact_line : {l h : ℕ} → BodyLine c (fact c l h)
  rule_line : {w : ℕ} {op : Op} {lits : List Literal} → BodyLine c (rule c w op lits)

-- the low end of an F or R line
abbrev pub low_of : ℕ → Assign → Line → ℕ
low_of top I (fact d l h) = l
low_of top I (rule d w op lits) = (rule_value top I w op lits).low
low_of top I (query r d) = 0
low_of top I (default d) = 0

number_least : {j k : ℕ} {l : Line} {ls : List Line} → Numbered j ls k l → j ≤ k
number_least here = omega arith
number_least (behind n) = omega (arith, number_least n)

none_numbered : {j k : ℕ} {l : Line} → Numbered j [] k l → ⊥
none_numbered = elim [ ]

module _ (top : ℕ) (I : Assign) (c : ℕ) where
  -- an F or R line of c with this low end, by its number
  pub record LineWith (low j : ℕ) (ls : List Line) (k : ℕ) : Type 0 where
    pub line : Line
    pub numbered : Numbered j ls k line
    pub own : BodyLine c line
    pub low_is : low_of top I line ≡ low

  -- the first such line
  pub record FirstLineWith (low j : ℕ) (ls : List Line) (k : ℕ) : Type 0 where
    pub found : LineWith low j ls k
    pub first : (i : ℕ) → LineWith low j ls i → k ≤ i

  one_behind : {low j k : ℕ} {l : Line} {ls : List Line} → LineWith low (suc j) ls k → LineWith low j (l ∷ ls) k
  one_behind f = record { line = f.line; numbered = behind f.numbered; own = f.own; low_is = f.low_is }

  -- what a line adds to the body of c
  adds : (l : Line) → (line_body top I c l ≡ []) ⊎ ((p : Interval) × (line_body top I c l ≡ p ∷ []) × BodyLine c l × (low_of top I l ≡ p.low))
  adds (fact d l h) =
      elim (ℕ_discrete d c) [
        | yes e ↦ rw e (rw (eq-eqb c c refl) (inr (record { low = l; high = h }, refl, fact_line, refl)))
        | no n ↦ rw (ne_eqb d c n) (inl refl)
      ]
  adds (rule d w op lits) =
      elim (ℕ_discrete d c) [
        | yes e ↦ rw e (rw (eq-eqb c c refl) (inr (rule_value top I w op lits, refl, rule_line, refl)))
        | no n ↦ rw (ne_eqb d c n) (inl refl)
      ]
  adds (query r d) = inl refl
  adds (default d) = inl refl

  own_adds : {l : Line} → BodyLine c l → (p : Interval) × (line_body top I c l ≡ p ∷ []) × (low_of top I l ≡ p.low)
  own_adds (fact_line {l} {h}) = (record { low = l; high = h }, rw (eq-eqb c c refl) refl, refl)
  own_adds (rule_line {w} {op} {lits}) = (rule_value top I w op lits, rw (eq-eqb c c refl) refl, refl)

  -- whether a line is an F or R line of c with this low end, as the search asks it
  has_low_lem : (low : ℕ) (l : Line) → has_low low (line_body top I c l) ≡ true → BodyLine c l × (low_of top I l ≡ low)
  has_low_lem low l e =
      ⊎_elim (λ z. absurd (false≢true (ap (has_low low) (sym z) ∙ e)))
      (λ z. (z.2, z.3 ∙ eqb-true z.0.low low (ap (has_low low) (sym z.1) ∙ e)))
      (adds l)

  low_has : (low : ℕ) (l : Line) → BodyLine c l → low_of top I l ≡ low → has_low low (line_body top I c l) ≡ true
  low_has low l o e = let a = own_adds o in ap (has_low low) a.1 ∙ eq-eqb a.0.low low (sym a.2 ∙ e)

  -- the search finds the first such line, if there is one, and 0 if there is none
  first_found : (low j : ℕ) (ls : List Line) {k : ℕ} → LineWith low j ls k → FirstLineWith low j ls (first_with top I c low j ls)
  unfolding first_with
  first_found low j [] f = absurd (none_numbered f.numbered)
  first_found low j (l ∷ ls) f = go (has_low low (line_body top I c l)) refl (λ (i : ℕ) g. first_found low (suc j) ls {k = i} g)
    where
      -- one that is not the first line stands behind it
      passed : {i : ℕ} {x : Line} → has_low low (line_body top I c l) ≡ false → Numbered j (l ∷ ls) i x → BodyLine c x → low_of top I x ≡ low → Numbered (suc j) ls i x
      passed e here o q = absurd (true≢false (sym (low_has low l o q) ∙ e))
      passed e (behind n) o q = n

      rest : {i : ℕ} → has_low low (line_body top I c l) ≡ false → LineWith low j (l ∷ ls) i → LineWith low (suc j) ls i
      rest e g = record { line = g.line; numbered = passed e g.numbered g.own g.low_is; own = g.own; low_is = g.low_is }

      go : (t : Bool) → has_low low (line_body top I c l) ≡ t → ((i : ℕ) → LineWith low (suc j) ls i → FirstLineWith low (suc j) ls (first_with top I c low (suc j) ls))
          → FirstLineWith low j (l ∷ ls) (first_with top I c low j (l ∷ ls))
      go true e next =
          let h = has_low_lem low l e in
          rw e
          (record {
            found = record { line = l; numbered = here; own = h.0; low_is = h.1 };
            first = λ i g. number_least g.numbered;
          })
      go false e next =
          let r = next _ (rest e f) in
          rw e (record { found = one_behind r.found; first = λ i g. r.first i (rest e g) })

  first_none : (low j : ℕ) (ls : List Line) → ((k : ℕ) (l : Line) → Numbered j ls k l → BodyLine c l → ⊥) → first_with top I c low j ls ≡ 0
  unfolding first_with
  first_none low j [] n = refl
  first_none low j (l ∷ ls) n =
      ⊎_elim (λ z. rw z (first_none low (suc j) ls (λ k x b. n k x (behind b)))) (λ z. absurd (n j l here z.2)) (adds l)

  -- the low end of the largest is that of what it begins with, or of a line
  largest_low : (j : ℕ) (ls : List Line) (p : Interval)
      → ((fold_from largest p (bodies top I c ls)).low ≡ p.low) ⊎ ((k : ℕ) × LineWith (fold_from largest p (bodies top I c ls)).low j ls k)
  unfolding bodies fold_from
  largest_low j [] p = inl refl
  largest_low j (l ∷ ls) p =
      ⊎_elim (λ z. rw z (⊎_elim inl (λ r. inr (r.0, one_behind r.1)) (largest_low (suc j) ls p)))
      (λ z. rw z.1
      (⊎_elim
      (λ e. elim (dec_le z.0.low p.low) [
        | yes q ↦ inl (omega arith)
        | no q ↦ inr (j, record { line = l; numbered = here; own = z.2; low_is = omega (arith, z.3) })
      ])
      (λ r. inr (r.0, one_behind r.1)) (largest_low (suc j) ls (largest p z.0))))
      (adds l)

  -- a condition with an F or R line has one with the low end of its body value
  body_low : (d : Interval) (j : ℕ) (ls : List Line) {k : ℕ} {l : Line} → Numbered j ls k l → BodyLine c l
      → (i : ℕ) × LineWith (largest_of d (bodies top I c ls)).low j ls i
  unfolding bodies largest_of
  body_low d j [] n o = elim n [ ]
  body_low d j (l ∷ ls) here o =
      let a = own_adds o in
      rw a.1
      (⊎_elim (λ e. (j, record { line = l; numbered = here; own = o; low_is = a.2 ∙ sym e })) (λ r. (r.0, one_behind r.1)) (largest_low (suc j) ls a.0))
  body_low d j (first ∷ ls) (behind n) o =
      ⊎_elim (λ z. rw z (let r = body_low d (suc j) ls n o in (r.0, one_behind r.1)))
      (λ z. rw z.1
      (⊎_elim (λ e. (j, record { line = first; numbered = here; own = z.2; low_is = z.3 ∙ sym e })) (λ r. (r.0, one_behind r.1)) (largest_low (suc j) ls z.0)))
      (adds first)

module _ (page : Page) (I : Assign) (c : ℕ) where
  -- the line k of the page, an F or R line of c, has the low end of the body value; no earlier one has
  abbrev pub Holds : ℕ → Type 0
  Holds k = FirstLineWith page.top I c (T page I c).low 2 page.lines k

  -- a condition with F or R lines is told such a line
  pub holding_told : {k : ℕ} {l : Line} → Numbered 2 page.lines k l → BodyLine c l → Holds (line_holding page I c)
  unfolding line_holding T
  holding_told n o = first_found page.top I c _ 2 page.lines (body_low page.top I c (bodyless page c) 2 page.lines n o).1

  -- so it never gets 0
  pub holding_some : {k : ℕ} {l : Line} → Numbered 2 page.lines k l → BodyLine c l → line_holding page I c ≢ 0
  holding_some n o e = omega (arith, number_least (holding_told n o).found.numbered)

  -- one without gets 0
  pub holding_none : ((k : ℕ) (l : Line) → Numbered 2 page.lines k l → BodyLine c l → ⊥) → line_holding page I c ≡ 0
  unfolding line_holding
  holding_none n = first_none page.top I c _ 2 page.lines n

  -- there is only one such line
  pub holding_one : (k : ℕ) → Holds k → k ≡ line_holding page I c
  holding_one k h =
      let t = holding_told h.found.numbered h.found.own in
      omega (arith, h.first (line_holding page I c) t.found, t.first k h.found)
