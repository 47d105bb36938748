-- A look-up in a part of an index finds the groups of its keys. Assumes nothing.
use mathlib.Core.Path.{◌≡◌, refl, sym, ◌∙◌, subst, ap}
use mathlib.Core.Logic.{◌⊎◌, ⊎_elim}
use mathlib.Core.Bool.{Bool, true, ◌||◌, or-true}
use mathlib.Core.List.{List}
use Prim.Native.Nat.{ℕ, zero, suc, ◌+◌, ◌*◌, ◌-◌, ◌≤◌, ◌<◌}
use native.Mathlib.Decide.{dec_lt, ℕ_discrete}
use native.Mathlib.Omega.{arith}
use lib.ListN.{length, get_or, drop, length-drop}
use lib.Seq.{length-take-le}
use Rattle.std.specs.Prelude.{Option, Some, MatchOption, is_some}
use Rattle.std.proofs.lemmas.List.{get_or-take, get_or-drop}
use Rattle.semantics.specs.Area.{page_of, conditions_of}
use Rattle.semantics.specs.Page.{names}
use Rattle.semantics.proofs.Table.{or_cases}
use Rattle.page.specs.Places.{LineOf}
use Rattle.index.specs.By.{keys_by, HasBy}
use Rattle.index.specs.Groups.{Groups}
use Rattle.index.specs.Lookup.{Sourced, Lists, Between, items_between}
use Rattle.index.specs.Parts.{Cut, LinesCut, UsersCut}
use Rattle.index.specs.Readers.{lines_read}
use Rattle.index.specs.declared.By.{By}
use Rattle.index.specs.declared.By.TheVariants.{Head, Literal}
use Rattle.index.specs.declared.source.Parts.{Parts as Opened}
use Rattle.index.proofs.Grouped.{group_order, group_within}
use Rattle.index.proofs.Readers.{names_codes}

-- the page of an opened source is the one that clauses name
pub area_is : {a : List ℕ} {b : Bool} {s : Sourced} → record { area = a; indexed = b } ≡ s → a ≡ s.area
area_is e = ap (λ (s : Sourced). s.area) e

-- the group of a key from t up to t' has q
abbrev Among : By → List ℕ → ℕ → ℕ → ℕ → Type 0
Among by a t t' q = (k : ℕ) × (t ≤ k) × (k < t') × HasBy by a k q

module _ (by : By) (a starts items : List ℕ) {t t' : ℕ} (p : Cut by a starts items) (o : t ≤ t') (l : t' ≤ keys_by by a) where
  abbrev m : ℕ
  m = keys_by by a

  g : Groups m (HasBy by a) starts items
  g = p.groups

  order : (k j : ℕ) → k ≤ j → j ≤ m → get_or starts k 0 ≤ get_or starts j 0
  order k j h u = let e : k + (j - k) ≡ j = omega arith in rw e at (group_order g (j - k) k (omega arith))

  inside : get_or starts t' 0 ≤ length items
  inside = group_within g t' l

  cut_between : Between t t' starts items
  cut_between = record { first = omega (arith, p.long); last = omega (arith, p.long); ordered = order t t' o l; inside = inside }

  size : length (items_between t t' starts items) ≡ get_or starts t' 0 - get_or starts t 0
  size = length-take-le (get_or starts t' 0 - get_or starts t 0) (drop (get_or starts t 0) items) (omega (arith, length-drop (get_or starts t 0) items, inside))

  item_at : (j : ℕ) → j < get_or starts t' 0 - get_or starts t 0 → get_or (items_between t t' starts items) j 0 ≡ get_or items (get_or starts t 0 + j) 0
  item_at j h = get_or-take (get_or starts t' 0 - get_or starts t 0) (drop (get_or starts t 0) items) j 0 h ∙ get_or-drop (get_or starts t 0) items j 0

  -- the key in whose group a place is
  key_of : (d j : ℕ) → t + d ≤ m → get_or starts t 0 ≤ j → j < get_or starts (t + d) 0 → (k : ℕ) × (t ≤ k) × (k < t + d) × (get_or starts k 0 ≤ j) × (j < get_or starts (k + 1) 0)
  key_of zero j h u v = let z : t + 0 ≡ t = omega arith in absurd (omega (arith, u, rw z at v))
  key_of (suc d) j h u v =
      elim (dec_lt j (get_or starts (t + d) 0)) [
        | yes y ↦ let f = key_of d j (omega arith) u y in (f.0, f.1, omega (arith, f.2), f.3, f.4)
        | no y ↦ let z : t + suc d ≡ t + d + 1 = omega arith in (t + d, omega arith, omega arith, omega (arith, y), rw z at v)
      ]

  cut_lists : Lists (Among by a t t') (items_between t t' starts items)
  cut_lists =
      record {
        only = λ j h.
            let k : j < get_or starts t' 0 - get_or starts t 0 = rw size at h in
            let e : t + (t' - t) ≡ t' = omega arith in
            let f = key_of (t' - t) (get_or starts t 0 + j) (omega arith) (omega arith) (rw e (omega (arith, k))) in
            (f.0, f.1, omega (arith, f.2, e), subst (HasBy by a f.0) (sym (item_at j k)) (g.only f.0 (get_or starts t 0 + j) (omega (arith, f.2)) f.3 f.4));
        every = λ q h.
            let f = g.every h.0 q (omega (arith, h.2)) h.3 in
            let low : get_or starts t 0 ≤ f.0 = omega (arith, f.1, order t h.0 h.1 (omega (arith, h.2))) in
            let high : f.0 < get_or starts t' 0 = omega (arith, f.2, order (h.0 + 1) t' (omega (arith, h.2)) l) in
            let k : f.0 - get_or starts t 0 < get_or starts t' 0 - get_or starts t 0 = omega (arith, low, high) in
            let z : get_or starts t 0 + (f.0 - get_or starts t 0) ≡ f.0 = omega (arith, low) in
            (f.0 - get_or starts t 0, rw size k, item_at (f.0 - get_or starts t 0) k ∙ rw z f.3);
      }

-- a look-up in an index that is there: clauses name the source as s. The groups of the keys lie in the part that is read, and have what is asked for
module _ {a : List ℕ} {index : Option Opened} {i : Opened} {s : Sourced} (seen : record { area = a; indexed = is_some index } ≡ s)
    (parts : MatchOption index (Unit {0}) (λ x. LinesCut a x.lines.starts.now x.lines.items.now × UsersCut a x.users.starts.now x.users.items.now)) (was : index ≡ Some i) where
  abbrev Looked : ℕ → ℕ → List ℕ → List ℕ → (ℕ → Type 0) → Type 0
  Looked t t' starts items Has = Between t t' starts items × ((s.indexed ≡ true) × Lists Has (items_between t t' starts items))

  there : (s.indexed ≡ true) × LinesCut s.area i.lines.starts.now i.lines.items.now × UsersCut s.area i.users.starts.now i.users.items.now
  there = let p = rw was at parts in rw (← seen, was) (refl, p.0, p.1)

  looked : (by : By) {starts items : List ℕ} {t t' : ℕ} {Has : ℕ → Type 0} → Cut by s.area starts items → t ≤ t' → t' ≤ keys_by by s.area
      → ((q : ℕ) → Among by s.area t t' q → Has q) → ((q : ℕ) → Has q → Among by s.area t t' q) → Looked t t' starts items Has
  looked by {starts} {items} p o l f h =
      let x = cut_lists by s.area starts items p o l in
      (cut_between by s.area starts items p o l, (there.0, record { only = λ j k. f _ (x.only j k); every = λ q w. x.every q (h q w) }))

  pub lines_found : {c : ℕ} → c < conditions_of s.area → Looked c (c + 1) i.lines.starts.now i.lines.items.now (LineOf s.area c)
  lines_found {c} l =
      looked Head there.1 (omega arith) (omega (arith, l)) (λ q w. let z : w.0 ≡ c = omega (arith, w.1, w.2) in subst (λ k. LineOf s.area k q) z w.3) (λ q w. (c, omega arith, omega arith, w))

  abbrev reads : ℕ → ℕ → Bool
  reads code q = lines_read code (page_of s.area).lines q

  pub heads_found : {code : ℕ} → code < 2 * conditions_of s.area → Looked code (code + 1) i.users.starts.now i.users.items.now (λ h. reads code h ≡ true)
  heads_found {code} l =
      looked Literal there.2 (omega arith) (omega (arith, l)) (λ q w. let z : w.0 ≡ code = omega (arith, w.1, w.2) in rw z at w.3) (λ q w. (code, omega arith, omega arith, w))

  pub dependants_found : {c : ℕ} → c < conditions_of s.area → Looked (2 * c) (2 * c + 2) i.users.starts.now i.users.items.now (λ h. names (page_of s.area) h c ≡ true)
  dependants_found {c} l =
      looked Literal there.2 (omega arith) (omega (arith, l))
      (λ q w. names_codes (page_of s.area).lines q c ∙ either q w) (λ q w. found q (or_cases _ _ (sym (names_codes (page_of s.area).lines q c) ∙ w)))
    where
      either : (q : ℕ) → Among Literal s.area (2 * c) (2 * c + 2) q → (reads (2 * c) q || reads (2 * c + 1) q) ≡ true
      either q w =
          elim (ℕ_discrete w.0 (2 * c)) [
            | yes y ↦ rw (rw y at w.3)
            | no y ↦ let z : w.0 ≡ 2 * c + 1 = omega (arith, w.1, w.2) in rw (rw z at w.3, or-true)
          ]

      found : (q : ℕ) → (reads (2 * c) q ≡ true) ⊎ (reads (2 * c + 1) q ≡ true) → Among Literal s.area (2 * c) (2 * c + 2) q
      found q w = ⊎_elim (λ r. (2 * c, omega arith, omega arith, r)) (λ r. (2 * c + 1, omega arith, omega arith, r)) w
