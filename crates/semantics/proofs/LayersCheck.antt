-- The check has one outcome; it is 30 exactly where a chain through a negation leads back. Assumes nothing.
use mathlib.Core.Path.{◌≡◌, refl, sym, ◌∙◌, ap, ap₂, subst}
use mathlib.Core.Logic.{◌⊎◌, inl, inr, ◌↔◌}
use mathlib.Core.Bool.{Bool, true, false, not, true≢false}
use mathlib.Core.List.{List, [], ◌∷◌, ◌++◌}
use mathlib.Core.Option.{Option, none, some}
use Prim.Native.Nat.{ℕ, zero, suc, ◌+◌, ◌<◌}
use native.Mathlib.Omega.{arith}
use lib.Dec.{leb}
use lib.ListN.{length, drop}
use Rattle.semantics.specs.Area.{sound, page_of}
use Rattle.semantics.specs.Call.{cause, first_of}
use Rattle.semantics.specs.Page.{Page}
use Rattle.semantics.proofs.Proper.{Proper}
use Rattle.semantics.specs.Table.{table_from, table}
use Rattle.semantics.proofs.Soundness.{sound_proper}
use Rattle.semantics.specs.Layers.{Loops, LowestLoop, LayersAnswer, refused_layers, loops_at, layered, layers_number, layers_causes, LayersAs, LayersOf}
use Rattle.semantics.proofs.Layers.{loop_no_layers, lowest_one, layers_one, Passed, loop_or_layers}

table_eq : {A : Type 0} (n k : ℕ) (f g : ℕ → A) → ((i : ℕ) → i < n → f (k + i) ≡ g (k + i)) → table_from n k f ≡ table_from n k g
unfolding table_from
table_eq {A} zero k f g h = refl
table_eq {A} (suc n) k f g h =
    ap₂ (λ (x : A) (xs : List A). x ∷ xs) (subst (λ (j : ℕ). f j ≡ g j) (omega arith) (h 0 (omega arith)))
    (table_eq n (suc k) f g (λ i l. subst (λ (j : ℕ). f j ≡ g j) (omega arith) (h (suc i) (omega arith))))

abbrev given : Option ℕ → Bool
given (some k) = true
given none = false

-- no cause before 30: the page area is sound, and the slice long enough
pub sound_by : (a s : List ℕ) → first_of (layers_causes a s) ≡ none → sound a ≡ true
sound_by a s e = go (sound a) (leb (page_of a).conditions (length s)) refl e
  where
    go : (t u : Bool) → sound a ≡ t → first_of (cause (not t) 10 ∷ cause (not u) 31 ∷ []) ≡ none → sound a ≡ true
    go true u p q = p
    go false u p q = absurd (true≢false (ap given q))

-- what the paper leaves: an answer, and the slice after it
pub record Outcome (a s : List ℕ) : Type 0 where
  pub answer : LayersAnswer
  pub slice : List ℕ
  pub holds : LayersOf answer a s slice

as_exists : (o : Option ℕ) (page : Page) (s : List ℕ) → (o ≡ none → Proper page) → (r : LayersAnswer) × (x : List ℕ) × LayersAs o r page s x
as_exists (some k) page s w = (refused_layers k, s, (refl, refl))
as_exists none page s w = go (loop_or_layers page (w refl))
  where
    go : ((c : ℕ) × LowestLoop page c) ⊎ ((lay : ℕ → ℕ) × Passed page (w refl) lay) → (r : LayersAnswer) × (x : List ℕ) × LayersAs none r page s x
    go (inl r) = (loops_at r.0, s, (r.1, refl))
    go (inr r) = (layered, table page.conditions r.0 ++ drop page.conditions s, record { layer = r.0; is_least = r.1.is_least; written = refl })

pub check_exists : (a s : List ℕ) → Outcome a s
unfolding LayersOf
check_exists a s =
    let r = as_exists (first_of (layers_causes a s)) (page_of a) s (λ e. sound_proper a (sound_by a s e)) in
    record { answer = r.0; slice = r.1; holds = r.2 }

abbrev Same : (r q : LayersAnswer) (x y : List ℕ) → Type 0
Same r q x y = (r ≡ q) × (x ≡ y)

one_as : (o : Option ℕ) (r q : LayersAnswer) (page : Page) (s x y : List ℕ) → LayersAs o r page s x → LayersAs o q page s y → Same r q x y
one_as (some k) r q page s x y h g = (h.0 ∙ sym g.0, h.1 ∙ sym g.1)
one_as none (refused_layers k) q page s x y h g = absurd h
one_as none (loops_at c) (refused_layers k) page s x y h g = absurd g
one_as none (loops_at c) (loops_at d) page s x y h g = (ap loops_at (lowest_one h.0 g.0), h.1 ∙ sym g.1)
one_as none (loops_at c) layered page s x y h g = absurd (loop_no_layers h.0.loops g.is_least.layers)
one_as none layered (refused_layers k) page s x y h g = absurd g
one_as none layered (loops_at d) page s x y h g = absurd (loop_no_layers g.0.loops h.is_least.layers)
one_as none layered layered page s x y h g =
    (refl, h.written ∙ (ap (λ (t : List ℕ). t ++ drop page.conditions s) (table_eq page.conditions 0 h.layer g.layer same) ∙ sym g.written))
  where
    same : (i : ℕ) → i < page.conditions → h.layer (0 + i) ≡ g.layer (0 + i)
    same i l = layers_one h.is_least g.is_least (0 + i) (omega arith)

pub check_one : (a s : List ℕ) (r q : LayersAnswer) (x y : List ℕ) → LayersOf r a s x → LayersOf q a s y → (r ≡ q) × (x ≡ y)
unfolding LayersOf
check_one a s r q x y h g = one_as (first_of (layers_causes a s)) r q (page_of a) s x y h g

-- past 10 and 31, the answer is 30 exactly if some chain through a negation leads back; the condition told is the lowest on one
as_exactly : (page : Page) → Proper page → (r : LayersAnswer) (s x : List ℕ) → LayersAs none r page s x → (layers_number r ≡ 30) ↔ ((c : ℕ) × Loops page c)
as_exactly page w (refused_layers k) s x h = absurd h
as_exactly page w (loops_at c) s x h = (λ e. (c, h.0.loops), λ v. refl)
as_exactly page w layered s x h = (λ e. absurd (omega (arith, e)), λ v. absurd (loop_no_layers v.1 h.is_least.layers))

pub refused_layers_exactly : (a s : List ℕ) (r : LayersAnswer) (x : List ℕ) → first_of (layers_causes a s) ≡ none → LayersOf r a s x → (layers_number r ≡ 30) ↔ ((c : ℕ) × Loops (page_of a) c)
unfolding LayersOf
refused_layers_exactly a s r x e h =
    as_exactly (page_of a) (sound_proper a (sound_by a s e)) r s x (subst (λ (o : Option ℕ). LayersAs o r (page_of a) s x) e h)

pub told_lowest : (a s : List ℕ) (c : ℕ) (x : List ℕ) → first_of (layers_causes a s) ≡ none → LayersOf (loops_at c) a s x → LowestLoop (page_of a) c × (x ≡ s)
unfolding LayersOf
told_lowest a s c x e h = subst (λ (o : Option ℕ). LayersAs o (loops_at c) (page_of a) s x) e h
