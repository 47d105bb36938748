-- What a turn takes, gives and leaves. Assumes nothing.
use mathlib.Core.Path.{◌≡◌, refl, sym, ◌∙◌, ap, ap₂}
use mathlib.Core.Bool.{Bool, true, false, not, cond}
use mathlib.Core.List.{List, [], ◌∷◌, ◌++◌}
use mathlib.Core.Option.{Option, none, some}
use Prim.Native.Nat.{ℕ, ◌+◌, ◌≤◌, min}
use native.Mathlib.Omega.{arith}
use lib.Dec.{leb}
use lib.ListN.{length, drop, length-append, length-drop}
use borrow.Author.Tests.{le-leb, leb-true, not-false}
use Rattle.semantics.specs.Area.{sound, page_of}
use Rattle.semantics.specs.Call.{drive, cause, first_of}
use Rattle.semantics.specs.Operation.{Left, operation}
use Rattle.semantics.specs.Page.{Page}
use Rattle.semantics.specs.RunArea.{run_sound, reached_of, worklist_of}
use Rattle.semantics.proofs.Invariant.{no_cause_holds}
use Rattle.semantics.proofs.Operations.{drive_done}
use Rattle.semantics.specs.Stalls.{Stall, first, second, other, of_stall, number_of, need_of, run_length, shared_length, part_of, shared_causes, Told, refused_turn, turned, Turn, share_of, turn_told, turn_part, unsound_stall, turn_as, turn_of, DroveAs, TurnKeeps}
use Rattle.semantics.proofs.StallsSplit.{taken_is, shares_take, share_within, share_least}
use Rattle.semantics.proofs.StallsParts.{length_part, length_operation, part_joined, past_joined}

turned_none : (o p : Option ℕ) (area : List ℕ) (t : Turn) (x y : Told) → (turn_as o p area t).answer ≡ turned x y → (o ≡ none) × (p ≡ none)
turned_none (some k) p area t x y e = absurd (let z : ◌≡◌ {A = ℕ} 0 1 = cc in omega arith)
turned_none none (some j) area t x y e = absurd (let z : ◌≡◌ {A = ℕ} 0 1 = cc in omega arith)
turned_none none none area t x y e = (refl, refl)

refused_same : (o p : Option ℕ) (area : List ℕ) (x y : Told) (d : List ℕ) (k j : ℕ)
    → (turn_as o p area (record { answer = turned x y; area = d })).answer ≡ refused_turn k j → (turn_as o p area (record { answer = turned x y; area = d })).area ≡ area
refused_same (some i) p area x y d k j e = refl
refused_same none (some i) area x y d k j e = refl
refused_same none none area x y d k j e = absurd (let z : ◌≡◌ {A = ℕ} 0 1 = cc in omega arith)

-- for one stall's sake a turn is refused only where the other's part is not sound
pub unsound_other : (page : Page) (area : List ℕ) (s : Stall) → run_sound page (part_of page s area) ≡ true
    → (t : Bool) → run_sound page (part_of page (other s) area) ≡ t → unsound_stall page area ≡ cond t none (some (number_of (other s)))
unsound_other page area first h true e = rw (h, e)
unsound_other page area first h false e = rw (h, e)
unsound_other page area second h true e = rw (h, e)
unsound_other page area second h false e = rw e

module _ (a area : List ℕ) (b : ℕ) where
  -- a refused turn leaves the area
  pub refused_turn_lem : (k j : ℕ) → (turn_of a area b).answer ≡ refused_turn k j → (turn_of a area b).area ≡ area
  unfolding turn_of
  refused_turn_lem k j e =
      refused_same (first_of (shared_causes a area)) (unsound_stall (page_of a) area) area (turn_told (page_of a) first area b) (turn_told (page_of a) second area b) _ k j e

  -- what an accepted one had before it
  pub record Ready : Type 0 where
    pub page_sound : sound a ≡ true
    pub long : shared_length (page_of a) ≤ length area
    pub parts_sound : (s : Stall) → run_sound (page_of a) (part_of (page_of a) s area) ≡ true

  pub ready : (x y : Told) → (turn_of a area b).answer ≡ turned x y → Ready
  unfolding turn_of
  ready x y e =
      let h = turned_none (first_of (shared_causes a area)) (unsound_stall (page_of a) area) area _ x y e in
      let l = no_cause_holds (shared_causes a area) h.0 in
      record {
        page_sound = not-false (sound a) l.0;
        long = leb-true (shared_length (page_of a)) (length area) (not-false (leb (shared_length (page_of a)) (length area)) l.1.0);
        parts_sound = each (no_cause_holds (cause (not (run_sound (page_of a) (part_of (page_of a) first area))) 1 ∷ cause (not (run_sound (page_of a) (part_of (page_of a) second area))) 2 ∷ []) h.1);
      }
    where
      each : (not (run_sound (page_of a) (part_of (page_of a) first area)) ≡ false) × ((not (run_sound (page_of a) (part_of (page_of a) second area)) ≡ false) × Unit {0})
          → (s : Stall) → run_sound (page_of a) (part_of (page_of a) s area) ≡ true
      each l first = not-false (run_sound (page_of a) (part_of (page_of a) first area)) l.0
      each l second = not-false (run_sound (page_of a) (part_of (page_of a) second area)) l.1.0

  module _ (r : Ready) where
    -- what it then does
    pub turn_done : turn_of a area b
        ≡ record {
          answer = turned (turn_told (page_of a) first area b) (turn_told (page_of a) second area b);
          area = (turn_part a first area b).run ++ ((turn_part a second area b).run ++ drop (shared_length (page_of a)) area);
        }
    unfolding turn_of
    turn_done = rw (r.page_sound, le-leb (shared_length (page_of a)) (length area) r.long, r.parts_sound first, r.parts_sound second)

    part_length : (s : Stall) → length (turn_part a s area b).run ≡ run_length (page_of a)
    part_length s = length_operation a (part_of (page_of a) s area) (drive (share_of (page_of a) s area b)) ∙ length_part (page_of a) s area r.long

    pub turn_leaves : (s : Stall) → part_of (page_of a) s (turn_of a area b).area ≡ (turn_part a s area b).run
    turn_leaves s =
        ap (λ (t : Turn). part_of (page_of a) s t.area) turn_done
        ∙ part_joined (page_of a) (λ s. (turn_part a s area b).run) part_length (drop (shared_length (page_of a)) area) s

    pub turn_past : drop (shared_length (page_of a)) (turn_of a area b).area ≡ drop (shared_length (page_of a)) area
    turn_past =
        ap (λ (t : Turn). drop (shared_length (page_of a)) t.area) turn_done
        ∙ past_joined (page_of a) (λ s. (turn_part a s area b).run) part_length (drop (shared_length (page_of a)) area)

    pub turn_length : length (turn_of a area b).area ≡ length area
    turn_length =
        ap (λ (t : Turn). length t.area) turn_done
        ∙ omega (
          arith,
          length-append (turn_part a first area b).run ((turn_part a second area b).run ++ drop (shared_length (page_of a)) area),
          length-append (turn_part a second area b).run (drop (shared_length (page_of a)) area),
          part_length first,
          part_length second,
          length-drop (shared_length (page_of a)) area,
          r.long,
        )

    -- a stall takes its share as far as it needs it
    pub part_takes : (s : Stall) → (turn_told (page_of a) s area b).count ≡ min (share_of (page_of a) s area b) (need_of (page_of a) (part_of (page_of a) s area) b)
    part_takes s =
        let p = part_of (page_of a) s area in
        taken_is (page_of a) (reached_of (page_of a) p) (worklist_of (page_of a) p) b (share_of (page_of a) s area b)
        (share_within b (need_of (page_of a) p b) (need_of (page_of a) (part_of (page_of a) (other s) area) b) s)

    -- and is told what Drive answers, but for the line
    pub part_tells : (s : Stall) → DroveAs (turn_told (page_of a) s area b) (turn_part a s area b).answer
    part_tells s =
        record { line = _; answer_is = ap (λ (l : Left). l.answer) (drive_done a (part_of (page_of a) s area) r.page_sound (r.parts_sound s) (share_of (page_of a) s area b)) }

  pub turn_keeps : (x y : Told) → (turn_of a area b).answer ≡ turned x y → TurnKeeps a area b x y
  turn_keeps x y e =
      record {
        together = ap₂ ◌+◌ (counts first) (counts second) ∙ shares_take b (n first) (n second) first;
        least = λ s. rw (counts s) (share_least b (n s) (n (other s)) s);
        tells = λ s. rw (told_is s) (part_tells r s);
        leaves = turn_leaves r;
        past = turn_past r;
        as_long = turn_length r;
      }
    where
      r : Ready
      r = ready x y e

      n : Stall → ℕ
      n s = need_of (page_of a) (part_of (page_of a) s area) b

      told_is : (s : Stall) → of_stall s x y ≡ turn_told (page_of a) s area b
      told_is first = let f = sym e ∙ ap (λ (t : Turn). t.answer) (turn_done r) in cc
      told_is second = let f = sym e ∙ ap (λ (t : Turn). t.answer) (turn_done r) in cc

      counts : (s : Stall) → (of_stall s x y).count ≡ min (share_of (page_of a) s area b) (n s)
      counts s = ap (λ (z : Told). z.count) (told_is s) ∙ part_takes r s

-- "A stall's area after a turn depends on the page, its own area and the evaluations it was given": two turns, each accepted, of any two
-- shared areas, with the same part and the same share
pub turn_depends : (a area area' : List ℕ) (b b' : ℕ) (s : Stall) (x y x' y' : Told)
    → (turn_of a area b).answer ≡ turned x y → (turn_of a area' b').answer ≡ turned x' y'
    → part_of (page_of a) s area ≡ part_of (page_of a) s area' → share_of (page_of a) s area b ≡ share_of (page_of a) s area' b'
    → (part_of (page_of a) s (turn_of a area b).area ≡ part_of (page_of a) s (turn_of a area' b').area) × (of_stall s x y ≡ of_stall s x' y')
turn_depends a area area' b b' s x y x' y' e e' p k =
    let h = turn_keeps a area b x y e in
    let h' = turn_keeps a area' b' x' y' e' in
    let same = ap₂ (λ (r : List ℕ) (j : ℕ). operation a r (drive j)) p k in
    let f = sym (h.tells s).answer_is ∙ ap (λ (l : Left). l.answer) same ∙ (h'.tells s).answer_is in
    let c : (of_stall s x y).count ≡ (of_stall s x' y').count = cc in
    let d : (of_stall s x y).rests ≡ (of_stall s x' y').rests = cc in
    (h.leaves s ∙ ap (λ (l : Left). l.run) same ∙ sym (h'.leaves s), λ i. record { count = c i; rests = d i })
