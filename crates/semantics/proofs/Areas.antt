-- A run area and the state that it holds: encoding, decoding, and soundness. Assumes nothing.
use mathlib.Core.Path.{◌≡◌, refl, sym, ◌∙◌, ap, ap₂, subst₂}
use mathlib.Core.Bool.{Bool, true, false, ◌&&◌, ◌||◌}
use mathlib.Core.List.{List, ◌∷◌, ◌++◌}
use Prim.Native.Nat.{ℕ, zero, suc, ◌+◌, ◌*◌, ◌≤◌, ◌<◌}
use native.Mathlib.Numerals.{add-one}
use native.Mathlib.Omega.{arith}
use lib.Dec.{eqb, leb}
use lib.ListN.{length, get_or, drop, length-append}
use lib.Seq.{ext_get_or, get_or-drop, drop_at, drop-cons}
use borrow.Author.Tests.{le-leb, leb-true, eqb-true}
use Rattle.fixpoint.specs.Interval.{same, Interval, Ordered, Assign}
use Rattle.semantics.specs.Area.{every}
use Rattle.semantics.specs.Page.{Page}
use Rattle.semantics.proofs.Proper.{Proper}
use Rattle.semantics.specs.Reading.{closure}
use Rattle.semantics.specs.RunArea.{cells, mark_of, run_of, interval_at, mark_at, worklist_of, reached_of, cell_tests, run_sound}
use Rattle.semantics.specs.Table.{interval_of, member, table}
use Rattle.semantics.specs.Worklist.{Worklist}
use Rattle.fixpoint.proofs.Evaluation.{same_refl, same_true}
use Rattle.fixpoint.proofs.KnowledgeOrder.{pair_eq}
use Rattle.semantics.proofs.Closure.{closure_length}
use Rattle.semantics.proofs.Invariant.{Invariant}
use Rattle.semantics.proofs.Readings.{plain_is}
use Rattle.semantics.proofs.Soundness.{both_true, Every, every_true}
use Rattle.semantics.proofs.Table.{length_from, get_d_table, all_true, all_at}

length_cells : (n k : ℕ) (I : Assign) (mk : ℕ → ℕ) → length (cells n k I mk) ≡ 3 * n
unfolding cells
length_cells zero k I mk = omega arith
length_cells (suc n) k I mk = omega (arith, length_cells n (suc k) I mk)

pub length_run : (page : Page) (m : List Bool) (b : Worklist) → length (run_of page m b) ≡ 3 * page.conditions
unfolding run_of
length_run page m b = length_cells page.conditions 0 _ _

three : (i : ℕ) → 3 * suc i ≡ suc (suc (suc (3 * i)))
three i = omega arith

-- the cell of a condition
cell : (n k : ℕ) (I : Assign) (mk : ℕ → ℕ) (z : List ℕ) (i : ℕ) → i < n
    → (t : List ℕ) × (drop (3 * i) (cells n k I mk ++ z) ≡ (I (k + i)).low ∷ (I (k + i)).high ∷ mk (k + i) ∷ t)
unfolding cells
cell zero k I mk z i l = absurd (omega arith)
cell (suc n) k I mk z zero l =
    (cells n (suc k) I mk ++ z, ap (λ (c : ℕ). (I c).low ∷ (I c).high ∷ mk c ∷ (cells n (suc k) I mk ++ z)) (omega arith))
cell (suc n) k I mk z (suc i) l =
    let r = cell n (suc k) I mk z i (omega arith) in
    (r.0, rw (three i) (r.1 ∙ ap (λ (c : ℕ). (I c).low ∷ (I c).high ∷ mk c ∷ r.0) (omega arith)))

module _ (n : ℕ) (I : Assign) (mk : ℕ → ℕ) (z : List ℕ) (i : ℕ) (l : i < n) where
  abbrev area : List ℕ
  area = cells n 0 I mk ++ z

  at_cell : (j : ℕ) → get_or area (3 * i + j) 0 ≡ get_or ((I i).low ∷ (I i).high ∷ mk i ∷ (cell n 0 I mk z i l).0) j 0
  at_cell j =
      sym (get_or-drop (3 * i) area j 0) ∙ ap (λ (t : List ℕ). get_or t j 0) (cell n 0 I mk z i l).1
      ∙ ap (λ (c : ℕ). get_or ((I c).low ∷ (I c).high ∷ mk c ∷ (cell n 0 I mk z i l).0) j 0) (omega arith)

  pair_cell : interval_at area i ≡ I i
  pair_cell = pair_eq (ap (λ (k : ℕ). get_or area k 0) (omega arith) ∙ at_cell 0) (at_cell 1)

  mark_cell : mark_at area i ≡ mk i
  mark_cell = at_cell 2

mark_two : (w r : Bool) → eqb (mark_of w r) 2 ≡ w
mark_two true r = refl
mark_two false true = refl
mark_two false false = refl

mark_one : (w r : Bool) → (w ≡ true → r ≡ true) → leb 1 (mark_of w r) ≡ r
mark_one true r h = sym (h refl)
mark_one false true h = refl
mark_one false false h = refl

mark_in : (w r : Bool) → leb (mark_of w r) 2 ≡ true
mark_in true r = refl
mark_in false true = refl
mark_in false false = refl

cell_passes : (top : ℕ) (p : Interval) (w r : Bool) → p.low ≤ p.high → p.high ≤ top → (w ≡ true → r ≡ true) → (r ≡ false → p ≡ record { low = 0; high = top })
    → every (cell_tests top p (mark_of w r)) ≡ true
cell_passes top p w r o i h f =
    rw (le-leb p.low p.high o, le-leb p.high top i, mark_in w r, mark_one w r h) (go r refl)
  where
    go : (s : Bool) → r ≡ s → ((s || same p (record { low = 0; high = top })) && true) ≡ true
    go true e = refl
    go false e = rw (f e, same_refl (record { low = 0; high = top }))

-- A state that a run area can hold, where m is the set of the reached conditions: what the soundness of its area asks
pub record Encodable (page : Page) (m : List Bool) (b : Worklist) : Type 0 where
  pub reached_length : length m ≡ page.conditions
  pub intervals_length : length b.intervals ≡ page.conditions
  pub waiting_length : length b.waiting ≡ page.conditions
  pub inside : (c : ℕ) → c < page.conditions → member b.waiting c ≡ true → member m c ≡ true
  pub ordered : (c : ℕ) → c < page.conditions → Ordered (interval_of b.intervals c)
  pub within : (c : ℕ) → c < page.conditions → (interval_of b.intervals c).high ≤ page.top
  pub unreached : (c : ℕ) → c < page.conditions → member m c ≡ false → interval_of b.intervals c ≡ record { low = 0; high = page.top }

-- the area of such a state is sound, and holds it
module _ (page : Page) (m : List Bool) (b : Worklist) (h : Encodable page m b) (z : List ℕ) where
  abbrev n : ℕ
  n = page.conditions

  abbrev r : List ℕ
  r = run_of page m b ++ z

  pair_is : (c : ℕ) → c < n → interval_at r c ≡ interval_of b.intervals c
  unfolding run_of
  pair_is c l = pair_cell n (interval_of b.intervals) (λ c. mark_of (member b.waiting c) (member m c)) z c l

  mark_is : (c : ℕ) → c < n → mark_at r c ≡ mark_of (member b.waiting c) (member m c)
  unfolding run_of
  mark_is c l = mark_cell n (interval_of b.intervals) (λ c. mark_of (member b.waiting c) (member m c)) z c l

  pub state_back : worklist_of page r ≡ b
  unfolding worklist_of
  state_back = λ i. record { intervals = p i; waiting = q i }
    where
      p : table n (interval_at r) ≡ b.intervals
      p = ext_get_or (record { low = 0; high = 0 }) (table page.conditions (interval_at r)) b.intervals (length_from n 0 (interval_at r) ∙ sym h.intervals_length)
          (λ i l. let k : i < n = omega (arith, length_from n 0 (interval_at r)) in get_d_table n (interval_at r) i _ k ∙ pair_is i k)

      q : table page.conditions (λ c. eqb (mark_at r c) 2) ≡ b.waiting
      q = ext_get_or false (table page.conditions (λ c. eqb (mark_at r c) 2)) b.waiting (length_from n 0 (λ c. eqb (mark_at r c) 2) ∙ sym h.waiting_length)
          (λ i l. let k : i < n = omega (arith, length_from n 0 (λ c. eqb (mark_at r c) 2)) in
          get_d_table page.conditions (λ c. eqb (mark_at r c) 2) i _ k ∙ ap (λ (x : ℕ). eqb x 2) (mark_is i k) ∙ mark_two _ _)

  pub reached_back : reached_of page r ≡ m
  unfolding reached_of
  reached_back =
      ext_get_or false (table page.conditions (λ c. leb 1 (mark_at r c))) m (length_from n 0 (λ c. leb 1 (mark_at r c)) ∙ sym h.reached_length)
      (λ i l. let k : i < n = omega (arith, length_from n 0 (λ c. leb 1 (mark_at r c))) in
      get_d_table page.conditions (λ c. leb 1 (mark_at r c)) i _ k ∙ ap (λ (x : ℕ). leb 1 x) (mark_is i k) ∙ mark_one _ _ (h.inside i k))

  cell_ok_lem : (c : ℕ) → c < n → every (cell_tests page.top (interval_at r c) (mark_at r c)) ≡ true
  cell_ok_lem c l =
      subst₂ (λ (p : Interval) (k : ℕ). every (cell_tests page.top p k) ≡ true) (sym (pair_is c l)) (sym (mark_is c l))
      (cell_passes page.top (interval_of b.intervals c) (member b.waiting c) (member m c) (h.ordered c l) (h.within c l) (h.inside c l) (h.unreached c l))

  pub area_sound : run_sound page r ≡ true
  unfolding run_sound
  area_sound =
      rw (le-leb (3 * n) (length r) (omega (arith, length-append (run_of page m b) z, length_run page m b)))
      (all_true n _ cell_ok_lem)

  pub rest_back : drop (3 * n) r ≡ z
  rest_back = drop_at (run_of page m b) z (3 * n) (length_run page m b)

-- the states of a run opened with the queries qs are such states
module _ (page : Page) (w : Proper page) (qs : List ℕ) where
  abbrev pub State : Worklist → ℕ → Type 0
  State = Invariant page w qs _ (plain_is page w)

  pub state_encodable : (b : Worklist) (t : ℕ) → State b t → Encodable page (closure page qs) b
  state_encodable b t h =
      record {
        reached_length = closure_length page qs;
        intervals_length = h.intervals_length;
        waiting_length = h.waiting_length;
        inside = h.state.inside;
        ordered = h.state.ordered;
        within = λ c l. (h.state.within c l).high_in;
        unreached = h.unreached;
      }

-- A list whose cells are those of I and mk is their area with what stands behind it: from elements, as code shows them, to the list
module _ (out : List ℕ) (I : Assign) (mk : ℕ → ℕ) where
  cells_from : (n k : ℕ) → 3 * (k + n) ≤ length out → ((c : ℕ) → c < k + n → interval_at out c ≡ I c) → ((c : ℕ) → c < k + n → mark_at out c ≡ mk c)
      → drop (3 * k) out ≡ cells n k I mk ++ drop (3 * (k + n)) out
  unfolding cells
  cells_from zero k l p q = let e : 3 * k ≡ 3 * (k + 0) = omega arith in ap (λ (j : ℕ). drop j out) e
  cells_from (suc n) k l p q =
      let low : get_or out (3 * k) 0 ≡ (I k).low = ap (λ (r : Interval). r.low) (p k (omega arith)) in
      let high : get_or out (suc (3 * k)) 0 ≡ (I k).high = ap (λ (j : ℕ). get_or out j 0) (sym (add-one (3 * k))) ∙ ap (λ (r : Interval). r.high) (p k (omega arith)) in
      let two : suc (suc (3 * k)) ≡ 3 * k + 2 = omega arith in
      let mark : get_or out (suc (suc (3 * k))) 0 ≡ mk k = ap (λ (j : ℕ). get_or out j 0) two ∙ q k (omega arith) in
      let e : suc (suc (suc (3 * k))) ≡ 3 * suc k = omega arith in
      let d : suc k + n ≡ k + suc n = omega arith in
      drop-cons out (3 * k) 0 (omega arith)
      ∙ ap₂ {C = List ℕ} (λ x xs. x ∷ xs) low (drop-cons out (suc (3 * k)) 0 (omega arith)
      ∙ ap₂ {C = List ℕ} (λ x xs. x ∷ xs) high (drop-cons out (suc (suc (3 * k))) 0 (omega arith)
      ∙ ap₂ {C = List ℕ} (λ x xs. x ∷ xs) mark (ap (λ (j : ℕ). drop j out) e
      ∙ cells_from n (suc k) (omega arith) (λ c m. p c (omega arith)) (λ c m. q c (omega arith))
      ∙ ap (λ (j : ℕ). cells n (suc k) I mk ++ drop (3 * j) out) d)))

  pub from_cells : (n : ℕ) → 3 * n ≤ length out → ((c : ℕ) → c < n → interval_at out c ≡ I c) → ((c : ℕ) → c < n → mark_at out c ≡ mk c) → out ≡ cells n 0 I mk ++ drop (3 * n) out
  from_cells n l p q =
      let e : 0 + n ≡ n = omega arith in
      cells_from n 0 (omega arith) (λ c m. p c (omega arith)) (λ c m. q c (omega arith)) ∙ ap (λ (j : ℕ). cells n 0 I mk ++ drop (3 * j) out) e

-- a sound run area is the encoding of what it holds, with what lies past 3 × C behind it
pub mark_back : (mark : ℕ) → leb mark 2 ≡ true → mark_of (eqb mark 2) (leb 1 mark) ≡ mark
mark_back zero h = refl
mark_back (suc zero) h = refl
mark_back (suc (suc zero)) h = refl
mark_back (suc (suc (suc m))) h = absurd (omega (arith, leb-true (suc (suc (suc m))) 2 h))

-- what a run area holds at a condition
module _ (page : Page) (r : List ℕ) (c : ℕ) (l : c < page.conditions) where
  pub held_at : interval_of (worklist_of page r).intervals c ≡ interval_at r c
  unfolding worklist_of
  held_at = get_d_table page.conditions (interval_at r) c _ l

  pub waits_at : member (worklist_of page r).waiting c ≡ eqb (mark_at r c) 2
  unfolding worklist_of
  waits_at = get_d_table page.conditions (λ c. eqb (mark_at r c) 2) c false l

  pub reached_at : member (reached_of page r) c ≡ leb 1 (mark_at r c)
  unfolding reached_of
  reached_at = get_d_table page.conditions (λ c. leb 1 (mark_at r c)) c false l

module _ (page : Page) (r : List ℕ) (ok : run_sound page r ≡ true) where
  pub run_long : 3 * page.conditions ≤ length r
  unfolding run_sound
  run_long = leb-true (3 * page.conditions) (length r) (both_true (leb (3 * page.conditions) (length r)) _ ok).0

  pub cell_sound : (c : ℕ) → c < page.conditions → Every (cell_tests page.top (interval_at r c) (mark_at r c))
  unfolding run_sound
  cell_sound c l =
      every_true (cell_tests page.top (interval_at r c) (mark_at r c))
      (all_at page.conditions _ (both_true (leb (3 * page.conditions) (length r)) _ ok).1 c l)

  pub reencoded : run_of page (reached_of page r) (worklist_of page r) ++ drop (3 * page.conditions) r ≡ r
  unfolding run_of
  reencoded =
      sym (from_cells r (interval_of (worklist_of page r).intervals) (λ c. mark_of (member (worklist_of page r).waiting c) (member (reached_of page r) c)) page.conditions run_long
      (λ c l. sym (held_at page r c l))
      (λ c l. sym (ap₂ mark_of (waits_at page r c l) (reached_at page r c l) ∙ mark_back (mark_at r c) (cell_sound c l).1.1.0)))

  -- what it holds is a state that an area can hold
  pub sound_encodable : Encodable page (reached_of page r) (worklist_of page r)
  sound_encodable =
      record {
        reached_length = unfold reached_of in length_from page.conditions 0 _;
        intervals_length = unfold worklist_of in length_from page.conditions 0 _;
        waiting_length = unfold worklist_of in length_from page.conditions 0 _;
        inside = λ c l e. rw (reached_at page r c l) (le-leb 1 (mark_at r c) (omega (arith, eqb-true (mark_at r c) 2 (sym (waits_at page r c l) ∙ e))));
        ordered = λ c l. rw (held_at page r c l) (leb-true (get_or r (3 * c) 0) (get_or r (3 * c + 1) 0) (cell_sound c l).0);
        within = λ c l. rw (held_at page r c l) (leb-true (get_or r (3 * c + 1) 0) page.top (cell_sound c l).1.0);
        unreached = λ c l e. held_at page r c l ∙ same_true (interval_at r c) (record { low = 0; high = page.top })
            (rw (sym (reached_at page r c l) ∙ e) at (cell_sound c l).1.1.1.0);
      }
