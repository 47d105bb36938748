-- The search for a negation that is not fresh: literal by literal and line by line. Assumes nothing.
use mathlib.Core.Path.{◌≡◌, refl, sym, ◌∙◌, ap, subst}
use mathlib.Core.Logic.{inl, inr, ⊎_elim}
use mathlib.Core.Bool.{Bool, true, false, ◌&&◌, ◌||◌, true≢false, false≢true}
use mathlib.Core.List.{List, [], ◌∷◌, map}
use Prim.Native.Nat.{ℕ, zero, suc, ◌+◌, ◌*◌, ◌-◌, ◌≤◌, ◌<◌}
use native.Mathlib.Omega.{arith}
use Rattle.std.proofs.Common.{add-zero}
use Rattle.std.specs.Prelude.{MatchBool, Option, Some}
use Rattle.std.specs.List.{AllWithin, HoldsAt}
use Rattle.std.proofs.lemmas.Iterator.{YieldsList}
use Rattle.std.proofs.lemmas.Iterator.Consumers.{YieldsList-from_shown}
use lib.Dec.{eqb}
use lib.ListN.{length, get_or, take, drop, length-take}
use lib.Seq.{get_or-take, get_or-drop}
use borrow.Author.Tests.{eqb-true}
use Rattle.semantics.specs.Area.{literal_of, code_of, line_at, page_of, top_of, conditions_of, count_of}
use Rattle.semantics.proofs.ExactAreas.{code_literal}
use Rattle.semantics.proofs.Soundness.{both_true}
use Rattle.semantics.proofs.Table.{or_cases}
use Rattle.page.specs.Lines.{BeginsAt}
use Rattle.page.specs.Places.{place_of, LineIn, RuleIn, EntryIs, Proceeds}
use Rattle.page.specs.declared.Lines.{Lines}
use Rattle.page.proofs.Entries.{code_in}
use Rattle.page.proofs.Scan.{line_at_lem, rule_kind_lem, fact_kind_lem, over_five}
use Rattle.page.proofs.Scanning.{lines_left, lines_first, lines_none}
use Rattle.page.proofs.LineNumbers.{rule_in, lines_from}
use Rattle.index.specs.Readers.{among, lines_read}
use Rattle.settle.proofs.Draining.{read_cons}
use Rattle.rounds.specs.Round.{Fresh, Searched, LinesHave}
use Rattle.page.specs.Solvable.{solvable}

module _ (a s : List ℕ) where
  -- some negation is not fresh; the literals of which P tells are
  abbrev pub SomeStale : Type 0
  SomeStale = (c : ℕ) × (c < conditions_of a) × (Fresh a s c → ⊥)

  abbrev pub AllFresh : (ℕ → Type 0) → Type 0
  AllFresh P = (c : ℕ) → P (2 * c + 1) → Fresh a s c

  searched_none : {P : ℕ → Type 0} → AllFresh P → Searched a s P false
  searched_none h = record { one = λ y. absurd (false≢true y); all = λ y. h }

  -- a search through a list, each element of which stands for the literals Q of it
  pub searched_by : (Q : ℕ → ℕ → Type 0) {P : ℕ → Type 0} (xs : List ℕ) (found : Bool) → MatchBool found ((k : ℕ) × (k < length xs) × HoldsAt (λ x. SomeStale) xs k) (AllWithin (λ x. AllFresh (Q x)) xs 0 (length xs))
      → ((code : ℕ) → P code → (i : ℕ) × (i < length xs) × Q (get_or xs i 0) code) → Searched a s P found
  searched_by Q xs true h g = record { one = λ y. h.2 0; all = λ y. absurd (true≢false y) }
  searched_by Q xs false h g = searched_none (λ c p. let i = g (2 * c + 1) p in h i.0 0 (omega arith) i.1 c i.2)

-- the literal with a code among others
among_at : (code : ℕ) (xs : List ℕ) → among code (map literal_of xs) ≡ true → (i : ℕ) × (i < length xs) × (code ≡ get_or xs i 0)
unfolding among
among_at code [] h = absurd (true≢false (sym h))
among_at code (x ∷ xs) h =
    elim (or_cases (eqb (code_of (literal_of x)) code) (among code (map literal_of xs)) h) [
      | inl e ↦ (0, omega arith, sym (eqb-true (code_of (literal_of x)) code e) ∙ code_literal x)
      | inr e ↦ let r = among_at code xs e in (suc r.0, omega (arith, r.1), r.2)
    ]

-- the line of an entry is a rule by its kind
pub rule_here : {a : List ℕ} {at condition kind x y : ℕ} → LineIn a at → EntryIs a at condition kind x y → 1 ≤ kind → kind ≤ 5 → RuleIn a at
rule_here l e least most = record { line = l; least = omega (arith, e.kind_is); most = omega (arith, e.kind_is) }

-- the literals of the rule at a place
module _ (a : List ℕ) (ok : solvable a ≡ true) {at : ℕ} (r : RuleIn a at) {codes : List ℕ} (f : codes ≡ take (get_or a (at + 3) 0) (drop (at + 4) a)) where
  length_is : length codes ≤ get_or a (at + 3) 0
  length_is = rw f (omega (arith, length-take (get_or a (at + 3) 0) (drop (at + 4) a)))

  code_is : (i : ℕ) → i < get_or a (at + 3) 0 → get_or codes i 0 ≡ get_or a (at + 4 + i) 0
  code_is i u = rw f (get_or-take (get_or a (at + 3) 0) (drop (at + 4) a) i 0 u ∙ get_or-drop (at + 4) a i 0)

  pub codes_here : (i : ℕ) → i < length codes → get_or codes i 0 < 2 * conditions_of a
  codes_here i u = rw (code_is i (omega (arith, length_is))) (code_in (top_of a) (conditions_of a) a at (rule_in a ok r) i (omega (arith, length_is)))

  pub have_among : (code : ℕ) → LinesHave (line_at (drop at a) ∷ []) code → (i : ℕ) × (i < length codes) × (code ≡ get_or codes i 0)
  unfolding lines_read
  have_among code (d, q) =
      let m : ℕ = get_or a (at + 3) 0 in
      let k = rule_kind_lem (get_or a (at + 1) 0) r.least r.most in
      let p : ((eqb (get_or a at 0) d && among code (map literal_of (take m (drop (at + 4) a)))) || false) ≡ true = rw (line_at_lem a at, k.1) at q in
      rw f (among_at code (take m (drop (at + 4) a)) (⊎_elim (λ y. (both_true (eqb (get_or a at 0) d) _ y).1) (λ y. absurd (false≢true y)) (or_cases _ false p)))

-- facts and queries have none
module _ (a s : List ℕ) (at : ℕ) where
  pub fact_searched : get_or a (at + 1) 0 < 1 → Searched a s (LinesHave (line_at (drop at a) ∷ [])) false
  unfolding lines_read
  fact_searched l = searched_none a s (λ c q. absurd (false≢true (rw (line_at_lem a at, fact_kind_lem (get_or a (at + 1) 0) (omega arith)) at q.1)))

  pub over_searched : 5 < get_or a (at + 1) 0 → Searched a s (LinesHave (line_at (drop at a) ∷ [])) false
  unfolding lines_read
  over_searched l =
      searched_none a s (λ c q. absurd (⊎_elim (λ e. false≢true (rw (line_at_lem a at, e) at q.1)) (⊎_elim (λ e. false≢true (rw (line_at_lem a at, e) at q.1)) (λ e. false≢true (rw (line_at_lem a at, e) at q.1))) (over_five (get_or a (at + 1) 0) l)))

-- the places of m lines, from line k on
abbrev pub places : (a : List ℕ) (k m : ℕ) → List ℕ
places a k zero = []
places a k (suc m) = place_of a k ∷ places a (suc k) m

module _ (a : List ℕ) where
  places_length : (k m : ℕ) → length (places a k m) ≡ m
  places_length k zero = refl
  places_length k (suc m) = ap suc (places_length (suc k) m)

  places_at : (k m i d : ℕ) → i < m → get_or (places a k m) i d ≡ place_of a (k + i)
  places_at k zero i d l = absurd (omega arith)
  places_at k (suc m) zero d l = ap (place_of a) {x = k} (omega arith)
  places_at k (suc m) (suc i) d l = places_at (suc k) m i d (omega arith) ∙ ap (place_of a) {x = suc k + i} (omega arith)

  -- all lines stand there
  pub places_in : (i d : ℕ) → i < length (places a 0 (count_of a)) → LineIn a (get_or (places a 0 (count_of a)) i d)
  places_in i d l =
      let m : i < count_of a = omega (arith, places_length 0 (count_of a)) in
      record { number = i; in_count = m; place = places_at 0 (count_of a) i d m ∙ ap (place_of a) {x = 0 + i} (omega arith) }

-- the iterator over the lines gives the places of those still to come
abbrev pub Steps : Lines → Option ℕ → Lines → Type 0
Steps s r t = Proceeds s.numbers.now s.at s.passed r t.numbers.now t.at t.passed

abbrev shown : Lines → List ℕ
shown s = places s.numbers.now s.passed (count_of s.numbers.now - s.passed)

line_first : {a b : List ℕ} {at k x at' k' : ℕ} → Proceeds a at k (Some x) b at' k' → places a k (count_of a - k) ≡ x ∷ places b k' (count_of b - k')
line_first {a} {b} {at} {k} {x} {at'} {k'} p =
    let g = p.gives in
    let e : count_of a - k ≡ suc (count_of a - k') = omega (arith, g.0, g.3.count) in
    let f : k' ≡ suc k = g.3.count ∙ omega arith in
    rw (p.same, e, g.1, g.2, f) refl

pub lines_give : {a : List ℕ} {s : Lines} → BeginsAt a s.numbers.now s.at s.passed → YieldsList Steps (λ x. x) s (places a 0 (count_of a))
lines_give {a} {s} b =
    subst (YieldsList Steps (λ x. x) s) (rw (b.same, b.count) (ap (places a 0) {x = count_of a - 0} (omega arith)))
    (YieldsList-from_shown Steps (λ x. x) shown (λ s t p. places_length s.numbers.now s.passed _ ∙ omega (arith, p.gives.0)) (λ s x t p. line_first p) s)

-- a line of the page stands at one of the places
module _ (a : List ℕ) (ok : solvable a ≡ true) where
  have_from : (code m k : ℕ) → k + m ≡ count_of a → LinesHave (lines_left a (place_of a k) k) code → (i : ℕ) × (i < m) × LinesHave (line_at (drop (place_of a (k + i)) a) ∷ []) code
  unfolding lines_read
  have_from code zero k e h = absurd (false≢true (rw (lines_none a (place_of a k) k (omega arith)) at h.1))
  have_from code (suc m) k e h =
      ⊎_elim (λ y. (0, omega arith, (h.0, rw add-zero y)))
      (λ y. let r = have_from code m (suc k) (omega arith) (h.0, y) in (suc r.0, omega (arith, r.1), subst (λ (j : ℕ). LinesHave (line_at (drop (place_of a j) a) ∷ []) code) {x = suc k + r.0} (omega arith) r.2))
      (or_cases (lines_read code (line_at (drop (place_of a k) a) ∷ []) h.0) _ (sym (read_cons code (line_at (drop (place_of a k) a)) (lines_left a (place_of a (suc k)) (suc k)) h.0) ∙ rw (lines_from a ok k (omega arith)) at h.1))

  pub lines_have : (code : ℕ) → LinesHave (page_of a).lines code
      → (i : ℕ) × (i < length (places a 0 (count_of a))) × LinesHave (line_at (drop (get_or (places a 0 (count_of a)) i 0) a) ∷ []) code
  unfolding place_of
  lines_have code h =
      let r = have_from code (count_of a) 0 (omega arith) (h.0, rw (lines_first a) h.1) in
      (r.0, omega (arith, r.1, places_length a 0 (count_of a)), rw (places_at a 0 (count_of a) r.0 0 r.1) r.2)
