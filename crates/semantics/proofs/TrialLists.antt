-- What it says of a list of trials that it is accepted for a page: its lines are in range and few, their numbers small, the trial numbers do not
-- fall, and the list is short. A refusal's number is 40, 41 or 42, its line at most 1,025, its place 0. Assumes nothing.
use mathlib.Core.Path.{◌≡◌, refl, subst}
use mathlib.Core.Bool.{Bool, true, false, not, ◌&&◌, false≢true}
use mathlib.Core.List.{List, [], ◌∷◌}
use mathlib.Core.Option.{Option, none, some}
use Prim.Native.Nat.{ℕ, suc, ◌+◌, ◌≤◌, ◌<◌}
use native.Mathlib.Omega.{arith}
use lib.Dec.{eqb, ltb, leb}
use lib.ListN.{length, length-append}
use borrow.Author.Tests.{lt-ltb, ltb-false, leb-false, eqb-false, not-false}
use Rattle.semantics.specs.Call.{cause, first_of}
use Rattle.semantics.specs.Fields.{ended_lines}
use Rattle.semantics.specs.Page.{Page}
use Rattle.semantics.specs.ReadPage.{Refusal, placed, told_at, or_else}
use Rattle.semantics.specs.Text.{parted, text_lines, fields_of, field}
use Rattle.semantics.specs.Trials.{TrialLine, trial_form, is_trial, trial_in, line_end, trial_causes, bad_trial, list_refusal, trial_lines_in, list_read}
use Rattle.semantics.proofs.FieldRanges.{else_none, no_cause_placed}
use Rattle.semantics.proofs.ReadLines.{told_none}
use Rattle.semantics.proofs.Soundness.{every_true}
use Rattle.semantics.proofs.TextNumbers.{value_most}

-- a line in range: its condition below C, low ≤ high ≤ top
abbrev pub LineInRange : ℕ → ℕ → TrialLine → Type 0
LineInRange top n t = (t.condition < n) × (t.low ≤ t.high) × (t.high ≤ top)

abbrev pub AllTried : ℕ → ℕ → List TrialLine → Type 0
AllTried top n [] = Unit {0}
AllTried top n (t ∷ ts) = LineInRange top n t × AllTried top n ts

-- a line of numbers of at most three digits: "trial 0 to 999"
abbrev pub LineSmall : TrialLine → Type 0
LineSmall t = (t.trial < 1000) × (t.condition < 1000) × (t.low < 1000) × (t.high < 1000)

abbrev pub AllSmall : List TrialLine → Type 0
AllSmall [] = Unit {0}
AllSmall (t ∷ ts) = LineSmall t × AllSmall ts

-- "trial numbers never fall": behind a line of the trial k
abbrev pub RisingFrom : ℕ → List TrialLine → Type 0
RisingFrom k [] = Unit {0}
RisingFrom k (t ∷ ts) = (k ≤ t.trial) × RisingFrom t.trial ts

-- a line that is not bad, and those behind it
pub record GoodTrial (top n size k at before : ℕ) (l : List ℕ) (ls : List (List ℕ)) : Type 0 where
  pub form : is_trial (fields_of l) ≡ true
  pub ended : line_end at l ≤ size
  pub early : eqb k 1025 ≡ false
  pub within : at < 65536 → line_end at l < 65536
  pub ranged : LineInRange top n (trial_in (fields_of l))
  pub rising : before ≤ (trial_in (fields_of l)).trial
  pub others : bad_trial top n size (suc k) (line_end at l) (trial_in (fields_of l)).trial ls ≡ none

pub good_trial : (top n size k at before : ℕ) (l : List ℕ) (ls : List (List ℕ)) → bad_trial top n size k at before (l ∷ ls) ≡ none
    → GoodTrial top n size k at before l ls
unfolding bad_trial
good_trial top n size k at before l ls e =
    let t = trial_in (fields_of l) in
    let f = placed 0 (first_of (trial_causes top n size k at before l)) in
    let w = else_none (told_at k f) (bad_trial top n size (suc k) (line_end at l) t.trial ls) e in
    let c = no_cause_placed 0 (trial_causes top n size k at before l) (told_none k f w.0) in
    record {
      form = not-false (is_trial (fields_of l)) c.0;
      ended = ltb-false size (line_end at l) c.1.0;
      early = c.1.1.0;
      within = λ h. leb-false 65536 (line_end at l) (second (ltb at 65536) (leb 65536 (line_end at l)) (lt-ltb at 65536 h) c.1.1.1.0);
      ranged = (
        leb-false n t.condition c.1.1.1.1.0,
        ltb-false t.high t.low c.1.1.1.1.1.1.1.0,
        ltb-false top t.high c.1.1.1.1.1.1.0,
      );
      rising = ltb-false t.trial before c.1.1.1.1.1.1.1.1.0;
      others = w.1;
    }
  where
    second : (t u : Bool) → t ≡ true → (t && u) ≡ false → u ≡ false
    second true u p e = e
    second false u p e = absurd (false≢true p)

-- the numbers of a line of the form
form_small : (fs : List (List ℕ)) → is_trial fs ≡ true → LineSmall (trial_in fs)
unfolding is_trial trial_in
form_small fs e =
    let h = every_true (trial_form fs) e in (
      omega (arith, value_most (field fs 1) h.1.1.0),
      omega (arith, value_most (field fs 2) h.1.1.1.0),
      omega (arith, value_most (field fs 3) h.1.1.1.1.0),
      omega (arith, value_most (field fs 4) h.1.1.1.1.1.0),
    )

-- the lines from line k on
record GoodLines (top n k at before : ℕ) (ls : List (List ℕ)) : Type 0 where
  tried : AllTried top n (trial_lines_in ls)
  small : AllSmall (trial_lines_in ls)
  rising : RisingFrom before (trial_lines_in ls)
  few : length (trial_lines_in ls) + k ≤ 1025
  short : at < 65536 → at + length (ended_lines ls) < 65536

good_lines : (top n size k at before : ℕ) (ls : List (List ℕ)) → k ≤ 1025 → bad_trial top n size k at before ls ≡ none → GoodLines top n k at before ls
unfolding trial_lines_in
good_lines top n size k at before [] m e = record { tried = tt; small = tt; rising = tt; few = omega arith; short = λ h. omega (arith, h) }
good_lines top n size k at before (l ∷ ls) m e =
    let g = good_trial top n size k at before l ls e in
    let d = eqb-false k 1025 g.early in
    let w = good_lines top n size (suc k) (line_end at l) (trial_in (fields_of l)).trial ls (omega arith) g.others in
    record {
      tried = (g.ranged, w.tried);
      small = (form_small (fields_of l) g.form, w.small);
      rising = (g.rising, w.rising);
      few = omega (arith, w.few);
      short = λ h. omega (arith, w.short (g.within h), length-append l (10 ∷ ended_lines ls));
    }

-- the lines of a text, each ended, are not shorter than it
lines_long : (s : List ℕ) → length s ≤ length (ended_lines (text_lines s))
unfolding text_lines
lines_long [] = omega arith
lines_long (b ∷ s) = go (eqb b 10) (text_lines s) (lines_long s)
  where
    go : (t : Bool) (parts : List (List ℕ)) → length s ≤ length (ended_lines parts) → suc (length s) ≤ length (ended_lines (parted t b parts))
    go true parts h = omega (arith, h)
    go false [] h = omega (arith, h)
    go false (p ∷ ps) h = omega (arith, h)

pub record Accepted (page : Page) (bytes : List ℕ) : Type 0 where
  pub tried : AllTried page.top page.conditions (list_read bytes)
  pub small : AllSmall (list_read bytes)
  pub rising : RisingFrom 0 (list_read bytes)
  pub few : length (list_read bytes) ≤ 1024
  pub short : length bytes ≤ 65535

pub accepted_tried : (page : Page) (bytes : List ℕ) → list_refusal page bytes ≡ none → Accepted page bytes
unfolding list_refusal
accepted_tried page bytes e =
    let w = good_lines page.top page.conditions (length bytes) 1 0 0 (text_lines bytes) (omega arith) e in
    record { tried = w.tried; small = w.small; rising = w.rising; few = omega (arith, w.few); short = omega (arith, w.short (omega arith), lines_long bytes) }

-- A refusal of a list.
pub record SmallListRefusal (r : Refusal) : Type 0 where
  pub number_least : 40 ≤ r.number
  pub number_most : r.number ≤ 42
  pub line_least : 1 ≤ r.line
  pub line_most : r.line ≤ 1025
  pub place_is : r.place ≡ 0

abbrev Small : Option Refusal → Type 0
Small none = Unit {0}
Small (some r) = SmallListRefusal r

small_lines_lem : (top n size k at before : ℕ) (ls : List (List ℕ)) → 1 ≤ k → k ≤ 1025 → Small (bad_trial top n size k at before ls)
unfolding bad_trial
small_lines_lem top n size k at before [] i m = tt
small_lines_lem top n size k at before (l ∷ ls) i m =
    go (not (is_trial (fields_of l))) (ltb size (line_end at l)) (eqb k 1025) (ltb at 65536 && leb 65536 (line_end at l))
    (leb n t.condition) (ltb top t.low) (ltb top t.high) (ltb t.high t.low) (ltb t.trial before)
    refl (λ d. small_lines_lem top n size (suc k) (line_end at l) t.trial ls (omega arith) (omega arith))
  where
    t : TrialLine
    t = trial_in (fields_of l)

    rest : Option Refusal
    rest = bad_trial top n size (suc k) (line_end at l) (trial_in (fields_of l)).trial ls

    told : (number : ℕ) → 40 ≤ number → number ≤ 42 → SmallListRefusal (record { number = number; line = k; place = 0 })
    told number h j = record { number_least = h; number_most = j; line_least = i; line_most = m; place_is = refl }

    go : (a b c d f g h j u : Bool) → eqb k 1025 ≡ c → ((k ≡ 1025 → ⊥) → Small rest)
        → Small (or_else (told_at k (placed 0 (first_of (cause a 40 ∷ cause b 40 ∷ cause c 40 ∷ cause d 40 ∷ cause f 41 ∷ cause g 41 ∷ cause h 41 ∷ cause j 41 ∷ cause u 42 ∷ [])))) rest)
    go true b c d f g h j u e s = told 40 (omega arith) (omega arith)
    go false true c d f g h j u e s = told 40 (omega arith) (omega arith)
    go false false true d f g h j u e s = told 40 (omega arith) (omega arith)
    go false false false true f g h j u e s = told 40 (omega arith) (omega arith)
    go false false false false true g h j u e s = told 41 (omega arith) (omega arith)
    go false false false false false true h j u e s = told 41 (omega arith) (omega arith)
    go false false false false false false true j u e s = told 41 (omega arith) (omega arith)
    go false false false false false false false true u e s = told 41 (omega arith) (omega arith)
    go false false false false false false false false true e s = told 42 (omega arith) (omega arith)
    go false false false false false false false false false e s = s (eqb-false k 1025 e)

pub list_small : (page : Page) (bytes : List ℕ) (r : Refusal) → list_refusal page bytes ≡ some r → SmallListRefusal r
unfolding list_refusal
list_small page bytes r e =
    go (bad_trial page.top page.conditions (length bytes) 1 0 0 (text_lines bytes))
    (small_lines_lem page.top page.conditions (length bytes) 1 0 0 (text_lines bytes) (omega arith) (omega arith)) e
  where
    go : (o : Option Refusal) → Small o → o ≡ some r → Small (some r)
    go o s e = subst Small e s
