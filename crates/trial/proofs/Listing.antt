-- The lines of a list as numbers: their ranges, and its first trial. Assumes nothing.
use mathlib.Core.Path.{◌≡◌, refl, sym, ◌∙◌, ap, ap₂}
use mathlib.Core.Logic.{◌≢◌}
use mathlib.Core.List.{List, [], ◌∷◌, ◌++◌}
use mathlib.Core.Option.{none}
use Prim.Native.Nat.{ℕ, zero, suc, ◌+◌, ◌*◌, ◌/◌, ◌≤◌, ◌<◌}
use native.Mathlib.Omega.{arith}
use lib.ListN.{length, get_or, take, drop, length-append, length-drop}
use lib.Seq.{drop-drop, get_or-drop, length-take-le}
use Rattle.std.proofs.lemmas.List.{take-append-drop, get_or-take, get_or-append-add}
use Rattle.semantics.specs.Page.{Page}
use Rattle.semantics.specs.Trials.{TrialLine, trials_of, list_refusal, list_read}
use Rattle.semantics.proofs.TrialLists.{AllTried, AllSmall, accepted_tried}
use Rattle.semantics.proofs.Trials.{AllOf, BeginsOther, trials_split}
use Rattle.change.specs.Trial.{trial_at, lines_at, lines_in}
use Rattle.change.proofs.Parts.{lines_part}
use Rattle.list.specs.Codes.{list_codes}
use Rattle.trial.specs.Parts.{ListIn, TrialEnd, FirstTrial}

-- lines, and those behind them
lines_add : (i j : ℕ) (p : List ℕ) → lines_at (i + j) p ≡ lines_at i p ++ lines_at j (drop (4 * i) p)
unfolding lines_at
lines_add zero j p = let e : 0 + j ≡ j = omega arith in ap (λ (k : ℕ). lines_at k p) e
lines_add (suc i) j p =
    let e : suc i + j ≡ suc (i + j) = omega arith in
    let f : 4 + 4 * i ≡ 4 * suc i = omega arith in
    ap (λ (k : ℕ). lines_at k p) e
    ∙ ap (λ (ts : List TrialLine). trial_at p ∷ ts)
    (lines_add i j (drop 4 p) ∙ ap (λ (q : List ℕ). lines_at i (drop 4 p) ++ lines_at j q) (drop-drop (4 * i) 4 p ∙ ap (λ (k : ℕ). drop k p) f))

-- a number of a line behind the first
behind : (p : List ℕ) (i j : ℕ) → get_or (drop 4 p) (4 * i + j) 0 ≡ get_or p (4 * suc i + j) 0
behind p i j = let e : 4 + (4 * i + j) ≡ 4 * suc i + j = omega arith in get_or-drop 4 p (4 * i + j) 0 ∙ ap (λ (k : ℕ). get_or p k 0) e

-- lines in range, from their numbers
tried_lines : (top n k : ℕ) (p : List ℕ) → ((i : ℕ) → i < k → get_or p (4 * i + 1) 0 < n)
    → ((i : ℕ) → i < k → get_or p (4 * i + 2) 0 ≤ get_or p (4 * i + 3) 0) → ((i : ℕ) → i < k → get_or p (4 * i + 3) 0 ≤ top) → AllTried top n (lines_at k p)
unfolding lines_at
tried_lines top n zero p c o h = tt
tried_lines top n (suc k) p c o h = (
  (c 0 (omega arith), o 0 (omega arith), h 0 (omega arith)),
  tried_lines top n k (drop 4 p) (λ i l. omega (arith, behind p i 1, c (suc i) (omega arith))) (λ i l. omega (arith, behind p i 2, behind p i 3, o (suc i) (omega arith)))
      (λ i l. omega (arith, behind p i 3, h (suc i) (omega arith))),
)

-- the lines of the numbers of lines
lines_back : (ts : List TrialLine) (z : List ℕ) → lines_at (length ts) (list_codes ts ++ z) ≡ ts
unfolding lines_at list_codes
lines_back [] z = refl
lines_back (t ∷ ts) z = ap (λ (us : List TrialLine). t ∷ us) (lines_back ts z)

-- the numbers of lines in range
module _ (top n : ℕ) (z : List ℕ) where
  codes_on : (t : TrialLine) (ts : List TrialLine) (i j : ℕ) → get_or (list_codes (t ∷ ts) ++ z) (4 * suc i + j) 0 ≡ get_or (list_codes ts ++ z) (4 * i + j) 0
  unfolding list_codes
  codes_on t ts i j = let e : 4 * suc i + j ≡ suc (suc (suc (suc (4 * i + j)))) = omega arith in ap (λ (k : ℕ). get_or (list_codes (t ∷ ts) ++ z) k 0) e

  at_line : (ts : List TrialLine) → AllTried top n ts → AllSmall ts → (i : ℕ) → i < length ts
      → (get_or (list_codes ts ++ z) (4 * i) 0 < 1000) × (get_or (list_codes ts ++ z) (4 * i + 1) 0 < n)
      × (get_or (list_codes ts ++ z) (4 * i + 2) 0 ≤ get_or (list_codes ts ++ z) (4 * i + 3) 0) × (get_or (list_codes ts ++ z) (4 * i + 3) 0 ≤ top)
  unfolding list_codes
  at_line [] w s i l = absurd (omega arith)
  at_line (t ∷ ts) w s zero l = (s.0.0, w.0.0, w.0.1, w.0.2)
  at_line (t ∷ ts) w s (suc i) l =
      let h = at_line ts w.1 s.1 i (omega arith) in
      let e : 4 * suc i + 0 ≡ 4 * suc i = omega arith in
      let f : 4 * i + 0 ≡ 4 * i = omega arith in
      let g : get_or (list_codes (t ∷ ts) ++ z) (4 * suc i) 0 ≡ get_or (list_codes ts ++ z) (4 * i) 0 =
      ap (λ (k : ℕ). get_or (list_codes (t ∷ ts) ++ z) k 0) (sym e) ∙ codes_on t ts i 0 ∙ ap (λ (k : ℕ). get_or (list_codes ts ++ z) k 0) f in
      (omega (arith, g, h.0), omega (arith, codes_on t ts i 1, h.1), omega (arith, codes_on t ts i 2, codes_on t ts i 3, h.2), omega (arith, codes_on t ts i 3, h.3))

-- an accepted list
pub list_in : (page : Page) (bytes list z : List ℕ) {k : ℕ} → list_refusal page bytes ≡ none → k ≡ length (list_read bytes) → list ≡ list_codes (list_read bytes) ++ z → 4 * k ≤ length list
    → ListIn page.top page.conditions list k × (lines_at k list ≡ list_read bytes)
list_in page bytes list z {k} e q d f =
    let a = accepted_tried page bytes e in
    let w = at_line page.top page.conditions z (list_read bytes) a.tried a.small in (
      record {
        few = omega (arith, a.few, q);
        inside = f;
        number = λ i l. rw d (w i (omega (arith, q))).0;
        condition = λ i l. rw d (w i (omega (arith, q))).1;
        ordered = λ i l. rw d (w i (omega (arith, q))).2;
        high = λ i l. rw d (w i (omega (arith, q))).3;
      },
      ap₂ {C = List TrialLine} (λ (i : ℕ) (p : List ℕ). lines_at i p) q d ∙ lines_back (list_read bytes) z,
    )

-- the lines of a list in range are
pub lines_tried : {top n lines : ℕ} {list : List ℕ} → ListIn top n list lines → AllTried top n (lines_at lines list)
lines_tried {top} {n} {lines} {list} w = tried_lines top n lines list w.condition w.ordered w.high

-- a part of a list in range: numbers that stand so many lines behind its beginning
pub part_in : {top n lines : ℕ} {list : List ℕ} → ListIn top n list lines → (part : List ℕ) (from k : ℕ) → from + k ≤ lines → 4 * k ≤ length part
    → ((j : ℕ) → j < 4 * k → get_or part j 0 ≡ get_or list (4 * from + j) 0) → ListIn top n part k
part_in {list = list} w part from k l f same =
    let at : (i j : ℕ) → i < k → j < 4 → get_or part (4 * i + j) 0 ≡ get_or list (4 * (from + i) + j) 0 =
    λ i j h m. same (4 * i + j) (omega arith) ∙ (let e : 4 * from + (4 * i + j) ≡ 4 * (from + i) + j = omega arith in ap (λ (x : ℕ). get_or list x 0) e) in
    let front : (i : ℕ) → i < k → get_or part (4 * i) 0 ≡ get_or list (4 * (from + i)) 0 =
    λ i h. same (4 * i) (omega arith) ∙ (let e : 4 * from + 4 * i ≡ 4 * (from + i) = omega arith in ap (λ (x : ℕ). get_or list x 0) e) in
    record {
      few = omega (arith, w.few);
      inside = f;
      number = λ i h. omega (arith, front i h, w.number (from + i) (omega arith));
      condition = λ i h. omega (arith, at i 1 h (omega arith), w.condition (from + i) (omega arith));
      ordered = λ i h. omega (arith, at i 2 h (omega arith), at i 3 h (omega arith), w.ordered (from + i) (omega arith));
      high = λ i h. omega (arith, at i 3 h (omega arith), w.high (from + i) (omega arith));
    }

-- so is a list that is cut behind them
pub front_in : {top n lines : ℕ} {list : List ℕ} → ListIn top n list lines → ListIn top n (take (4 * lines) list) (length (take (4 * lines) list) / 4)
front_in {lines = lines} {list} w =
    let l : length (take (4 * lines) list) ≡ 4 * lines = length-take-le (4 * lines) list w.inside in
    part_in w (take (4 * lines) list) 0 (length (take (4 * lines) list) / 4) (omega (arith, l)) (omega arith)
    (λ j h. let e : 4 * 0 + j ≡ j = omega arith in
    get_or-take (4 * lines) list j 0 (omega (arith, l)) ∙ ap (λ (i : ℕ). get_or list i 0) (sym e))

-- the first trial of a list
module _ (list : List ℕ) {end : ℕ} (e : TrialEnd list end) where
  all_of : (k m : ℕ) (p : List ℕ) → ((i : ℕ) → i < m → get_or p (4 * i) 0 ≡ k) → AllOf k (lines_at m p)
  unfolding lines_at
  all_of k zero p h = tt
  all_of k (suc m) p h =
      (h 0 (omega arith), all_of k m (drop 4 p) (λ i l. let f : 4 + 4 * i ≡ 4 * suc i = omega arith in get_or-drop 4 p (4 * i) 0 ∙ ap (λ (j : ℕ). get_or p j 0) f ∙ h (suc i) (omega arith)))

  begins_other : (k m : ℕ) (p : List ℕ) → (0 < m → get_or p 0 0 ≢ k) → BeginsOther k (lines_at m p)
  unfolding lines_at
  begins_other k zero p h = tt
  begins_other k (suc m) p h = h (omega arith)

  parted : lines_in list ≡ lines_at end list ++ lines_in (drop (4 * end) list)
  parted =
      let f : length list / 4 ≡ end + length (drop (4 * end) list) / 4 = omega (arith, e.within, length-drop (4 * end) list) in
      ap (λ (k : ℕ). lines_at k list) f ∙ lines_add end (length (drop (4 * end) list) / 4) list

  split : (m : ℕ) (p : List ℕ) (us : List TrialLine) → 0 < m → AllOf (get_or list 0 0) (lines_at m p) → BeginsOther (get_or list 0 0) us
      → trials_of (lines_at m p ++ us) ≡ record { number = get_or list 0 0; lines = lines_at m p } ∷ trials_of us
  unfolding lines_at
  split zero p us l a b = absurd (omega arith)
  split (suc m) p us l a b = trials_split (get_or list 0 0) (trial_at p) (lines_at m (drop 4 p)) us a b

  ends_at : get_or (drop (4 * end) list) 0 0 ≡ get_or list (4 * end) 0
  ends_at = let f : 4 * end + 0 ≡ 4 * end = omega arith in get_or-drop (4 * end) list 0 0 ∙ ap (λ (j : ℕ). get_or list j 0) f

  pub first_trial : FirstTrial list (take (4 * end) list) (drop (4 * end) list)
  first_trial =
      let n : length (take (4 * end) list) ≡ 4 * end = length-take-le (4 * end) list e.within in
      let number : get_or (take (4 * end) list) 0 0 ≡ get_or list 0 0 = get_or-take (4 * end) list 0 0 (omega (arith, e.some)) in
      record {
        whole = sym (take-append-drop (4 * end) list);
        some = omega (arith, n, e.some);
        full = omega (arith, n);
        first = ap trials_of parted
            ∙ split end list (lines_in (drop (4 * end) list)) e.some (all_of (get_or list 0 0) end list e.same)
            (begins_other (get_or list 0 0) (length (drop (4 * end) list) / 4) (drop (4 * end) list)
            (λ l q. e.other (omega (arith, length-drop (4 * end) list)) (sym ends_at ∙ q)))
            ∙ rw (number, lines_part end list e.within);
      }

-- the lines of a trial, and those behind it
pub trial_counted : {list trial rest : List ℕ} → FirstTrial list trial rest → length list ≡ length trial + length rest
trial_counted {list} {trial} {rest} f = ap length f.whole ∙ length-append trial rest

-- those behind it are in range
module _ {top n : ℕ} {list trial rest : List ℕ} (f : FirstTrial list trial rest) (w : ListIn top n list (length list / 4)) where
  pub rest_in_range : ListIn top n rest (length rest / 4)
  rest_in_range =
      part_in w rest (length trial / 4) (length rest / 4) (omega (arith, trial_counted f, f.full)) (omega arith)
      (λ j l. let e : 4 * (length trial / 4) + j ≡ length trial + j = omega (arith, f.full) in
      sym (get_or-append-add trial rest j 0) ∙ ap₂ {C = ℕ} (λ (q : List ℕ) (i : ℕ). get_or q i 0) (sym f.whole) (sym e))
