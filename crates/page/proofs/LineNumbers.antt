-- The lines of a sound page area by number: where each stands, its entry, and what it adds to a body. Assumes nothing.
use mathlib.Core.Path.{◌≡◌, refl, sym, ◌∙◌, ap, subst}
use mathlib.Core.Logic.{◌⊎◌, inl, inr, ⊎_elim}
use mathlib.Core.Bool.{Bool, true, false}
use mathlib.Core.List.{List, [], ◌∷◌, map}
use Prim.Native.Nat.{ℕ, zero, suc, ◌+◌, ◌-◌, ◌≤◌, ◌<◌}
use native.Mathlib.Numerals.{add-one}
use native.Mathlib.Decide.{dec_le}
use native.Mathlib.Omega.{arith}
use lib.Dec.{eqb}
use lib.ListN.{get_or, take, drop}
use borrow.Author.Tests.{eqb-true, eq-eqb}
use Rattle.fixpoint.specs.Interval.{Interval, Assign}
use Rattle.semantics.specs.Area.{Kind, fact_kind, rule_kind, query_kind, default_kind, no_kind, kind, line_as, line_at, literal_of, top_of, conditions_of, count_of, used_of, first_line}
use Rattle.semantics.specs.Body.{rule_value, only_if, line_body}
use Rattle.semantics.specs.Page.{Line, fact, rule, query, default}
use Rattle.page.specs.Graded.{RuleAt, SoundEntry}
use Rattle.page.proofs.Scan.{line_at_lem, entry_head, fact_kind_lem, rule_kind_lem, over_five}
use Rattle.page.proofs.Scanning.{lines_left, scanning_first, scanning_next, entry_here, entry_sound, lines_on}
use Rattle.page.proofs.Entries.{rule_at}
use Rattle.page.specs.Lines.{step_at, Next, Scanning, EntryIn}
use Rattle.page.specs.Places.{place_of, LineIn, LineOf, RuleIn}
use Rattle.page.specs.Solvable.{solvable}

-- a scan stands where the next line begins
pub place_first : (a : List ℕ) {at k : ℕ} → (at ≡ first_line a) × (k ≡ 0) → at ≡ place_of a k
unfolding place_of
place_first a q = rw q.1 q.0

pub place_next : (a : List ℕ) {at k at' k' : ℕ} → at ≡ place_of a k → Next a at k at' k' → at' ≡ place_of a k'
unfolding place_of
place_next a {at} {k} {at'} {k'} e m = m.place ∙ ap (λ (z : ℕ). z + step_at a z) e ∙ sym (ap (place_of a) (m.count ∙ add-one k))

-- an F or R line is a line
pub line_in : {a : List ℕ} {c at : ℕ} → LineOf a c at → LineIn a at
line_in s = record { number = s.number; in_count = s.in_count; place = s.place }

module _ (a : List ℕ) (ok : solvable a ≡ true) where
  -- the scan behind k lines stands where line k begins
  pub scanning_at : (k : ℕ) → k ≤ count_of a → Scanning a (place_of a k) k
  unfolding place_of
  scanning_at zero l = scanning_first a ok
  scanning_at (suc k) l =
      subst (λ (j : ℕ). Scanning a (place_of a (suc k)) j) (add-one k) (scanning_next a (scanning_at k (omega arith)) (omega arith))

  pub lines_from : (k : ℕ) → k < count_of a → lines_left a (place_of a k) k ≡ line_at (drop (place_of a k) a) ∷ lines_left a (place_of a (suc k)) (suc k)
  unfolding place_of
  lines_from k l =
      subst (λ (j : ℕ). lines_left a (place_of a k) k ≡ line_at (drop (place_of a k) a) ∷ lines_left a (place_of a (suc k)) j) (add-one k)
      (lines_on a (scanning_at k (omega arith)) l)

  -- the entry of a line passes its tests
  pub line_sound : {at : ℕ} → LineIn a at → SoundEntry (top_of a) (conditions_of a) (used_of a - at) a at
  line_sound h = rw h.place (entry_sound a (scanning_at h.number (omega (arith, h.in_count))) h.in_count)

  pub entry_at : {c at : ℕ} → LineOf a c at → SoundEntry (top_of a) (conditions_of a) (used_of a - at) a at
  entry_at s = line_sound (line_in s)

  pub rule_of : {c at : ℕ} → LineOf a c at → 1 ≤ get_or a (at + 1) 0 → RuleAt (top_of a) (conditions_of a) a at
  rule_of {c} {at} s l = let e = entry_at s in rule_at (top_of a) (conditions_of a) (used_of a - at) a at e.fits e.tests l s.body

  pub rule_in : {at : ℕ} → RuleIn a at → RuleAt (top_of a) (conditions_of a) a at
  rule_in r = let h = r.line in rule_of (record { number = h.number; in_count = h.in_count; place = h.place; head = refl; body = r.most }) r.least

  -- and lies in the area
  pub entry_of : {at : ℕ} → LineIn a at → EntryIn a at
  entry_of h = subst (EntryIn a) (sym h.place) (entry_here a (scanning_at h.number (omega (arith, h.in_count))) h.in_count)

  -- the condition of a line is one of the page's
  pub head_in : {at : ℕ} → LineIn a at → get_or a at 0 < conditions_of a
  head_in {at} h = entry_head (top_of a) (conditions_of a) (used_of a - at) a at (line_sound h).tests

-- a line adds nothing, or one interval, and then it is an F or R line of c
module _ (top : ℕ) (I : Assign) (c : ℕ) where
  only_shape : (t : Bool) (p : Interval) → (only_if t p ≡ []) ⊎ ((q : Interval) × (only_if t p ≡ q ∷ []))
  only_shape true p = inr (p, refl)
  only_shape false p = inl refl

  pub shape : (l : Line) → (line_body top I c l ≡ []) ⊎ ((p : Interval) × (line_body top I c l ≡ p ∷ []))
  shape (fact d l h) = only_shape (eqb d c) _
  shape (rule d w op lits) = only_shape (eqb d c) _
  shape (query r d) = inl refl
  shape (default d) = inl refl

  only_true : (t : Bool) (p : Interval) {q : Interval} → only_if t p ≡ q ∷ [] → t ≡ true
  only_true true p e = refl
  only_true false p e = let z : ◌≡◌ {A = ℕ} 0 1 = cc in absurd (omega arith)

  -- the kind of an F or R line
  abbrev Bodily : Kind → Type 0
  Bodily t = (t ≡ query_kind) ⊎ ((t ≡ default_kind) ⊎ (t ≡ no_kind)) → ⊥

  apart : (t : Kind) → (t ≡ query_kind → ◌≡◌ {A = ℕ} 0 1) → (t ≡ default_kind → ◌≡◌ {A = ℕ} 0 1) → (t ≡ no_kind → ◌≡◌ {A = ℕ} 0 1) → Bodily t
  apart t f d g h = ⊎_elim (λ q. let z = f q in omega arith) (⊎_elim (λ q. let z = d q in omega arith) (λ q. let z = g q in omega arith)) h

  adds_head : (t : Kind) (d x y : ℕ) (lits : List ℕ) {p : Interval} → line_body top I c (line_as t d x y lits) ≡ p ∷ [] → (d ≡ c) × Bodily t
  adds_head fact_kind d x y lits e = (eqb-true d c (only_true (eqb d c) _ e), apart fact_kind (λ q. cc) (λ q. cc) (λ q. cc))
  adds_head (rule_kind op) d x y lits e = (eqb-true d c (only_true (eqb d c) _ e), apart (rule_kind op) (λ q. cc) (λ q. cc) (λ q. cc))
  adds_head query_kind d x y lits e = let z : ◌≡◌ {A = ℕ} 0 1 = cc in absurd (omega arith)
  adds_head default_kind d x y lits e = let z : ◌≡◌ {A = ℕ} 0 1 = cc in absurd (omega arith)
  adds_head no_kind d x y lits e = let z : ◌≡◌ {A = ℕ} 0 1 = cc in absurd (omega arith)

  pub line_of : (a : List ℕ) (k : ℕ) → k < count_of a → {p : Interval} → line_body top I c (line_at (drop (place_of a k) a)) ≡ p ∷ [] → LineOf a c (place_of a k)
  line_of a k l {p} e =
      let at = place_of a k in
      let h = adds_head (kind (get_or a (at + 1) 0)) (get_or a at 0) (get_or a (at + 2) 0) (get_or a (at + 3) 0) (take (get_or a (at + 3) 0) (drop (at + 4) a)) (rw (line_at_lem a at) at e) in
      record {
        number = k;
        in_count = l;
        place = refl;
        head = h.0;
        body = elim (dec_le (get_or a (at + 1) 0) 5) [
          | yes z ↦ z
          | no z ↦ absurd (h.1 (over_five (get_or a (at + 1) 0) (omega arith)))
        ];
      }

  -- and an F or R line of c adds one
  pub adds_one : (a : List ℕ) {at : ℕ} → LineOf a c at → (p : Interval) × (line_body top I c (line_at (drop at a)) ≡ p ∷ [])
  adds_one a {at} s =
      elim (dec_le 1 (get_or a (at + 1) 0)) [
        | yes z ↦ let o = rule_kind_lem (get_or a (at + 1) 0) z s.body in (
          rule_value top I (get_or a (at + 2) 0) o.0 (map literal_of (take (get_or a (at + 3) 0) (drop (at + 4) a))),
          rw (line_at_lem a at, o.1, eq-eqb (get_or a at 0) c s.head),
        )
        | no z ↦ (record { low = get_or a (at + 2) 0; high = get_or a (at + 3) 0 }, rw (line_at_lem a at, fact_kind_lem (get_or a (at + 1) 0) (omega arith), eq-eqb (get_or a at 0) c s.head))
      ]
