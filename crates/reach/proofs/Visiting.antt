-- A condition is followed: a scan over its lines, and how many conditions they name. Assumes nothing.
use mathlib.Core.Path.{◌≡◌, refl, sym, ◌∙◌, ap}
use mathlib.Core.Logic.{◌≢◌}
use mathlib.Core.Bool.{Bool, true, false, not, ◌&&◌, ◌||◌}
use mathlib.Core.List.{List}
use Prim.Native.Nat.{ℕ, zero, suc, ◌+◌, ◌≤◌, ◌<◌}
use native.Mathlib.Decide.{dec_le}
use native.Mathlib.Omega.{arith}
use lib.Dec.{eqb}
use lib.ListN.{get_or, drop}
use borrow.Author.Tests.{eq-eqb, ne_eqb}
use Rattle.std.proofs.lemmas.Bool.{false_from_ne_true}
use Rattle.fixpoint.specs.Sum.{sum, bit, count}
use Rattle.fixpoint.proofs.Sum.{sum_eq, sum_zero}
use Rattle.semantics.specs.Area.{first_line, page_of, line_at, top_of, conditions_of, count_of}
use Rattle.semantics.specs.Page.{Line, names, lines_name}
use Rattle.semantics.proofs.Readings.{names_inside}
use Rattle.page.specs.Lines.{Next, line_names}
use Rattle.page.proofs.Naming.{lines_name_lem}
use Rattle.page.proofs.Scan.{entry_head}
use Rattle.page.specs.Lines.{Scanning}
use Rattle.page.proofs.Scanning.{lines_left, scanning_first, lines_first, scanning_moved, lines_moved, lines_none, entry_ok}
use Rattle.bits.specs.Words.{has, Absorbed}
use Rattle.reach.specs.Sets.{Inserts, Followed}
use Rattle.reach.proofs.Inserting.{Inserting, inserting_first, inserting_next, inserting_skip, inserting_last}
use Rattle.page.specs.Solvable.{solvable}
use Rattle.page.proofs.Solvable.{solvable_proper}

-- the head of the line where a scan stands is a condition
pub scanned_head : (a : List ℕ) {at k : ℕ} → Scanning a at k → k < count_of a → get_or a at 0 < (page_of a).conditions
unfolding page_of
scanned_head a {at} s l = entry_head (top_of a) (conditions_of a) _ a at (entry_ok a s l)

-- the scan stands at `at`, behind k lines, and `new` conditions are new
module _ (a : List ℕ) (c : ℕ) (words₀ : List ℕ) where
  pub record Gathering (words : List ℕ) (at k new : ℕ) : Type 0 where
    pub scan : Scanning a at k
    pub inserting : Inserting (names (page_of a) c) (λ b. lines_name (lines_left a at k) c b) (has words₀) (has words) new

  pub gathering_first : solvable a ≡ true → {at k : ℕ} → (at ≡ first_line a) × (k ≡ 0) → Gathering words₀ at k 0
  gathering_first e {at} {k} z =
      rw (z.0, z.1)
      (record {
        scan = scanning_first a e;
        inserting = inserting_first (λ b. ap (λ (ls : List Line). lines_name ls c b) (sym (lines_first a)));
      })

  module _ {words : List ℕ} {at k at' k' new : ℕ} (s : Gathering words at k new) (l : k < count_of a) (e : Next a at k at' k') where
    rest_is : (b : ℕ) → lines_name (lines_left a at k) c b ≡ ((eqb (get_or a at 0) c && line_names (line_at (drop at a)) b) || lines_name (lines_left a at' k') c b)
    rest_is b = ap (λ (ls : List Line). lines_name ls c b) (lines_moved a s.scan l e) ∙ lines_name_lem a at c b (lines_left a at' k')

    -- a line of c, and one of another condition
    pub gathering_next : {words' : List ℕ} {added : ℕ} → get_or a at 0 ≡ c → Inserts (line_names (line_at (drop at a))) (has words) (has words') added → Gathering words' at' k' (new + added)
    gathering_next q h =
        record {
          scan = scanning_moved a s.scan l e;
          inserting = inserting_next s.inserting h (λ b. rest_is b ∙ ap (λ (t : Bool). (t && line_names (line_at (drop at a)) b) || lines_name (lines_left a at' k') c b) (eq-eqb (get_or a at 0) c q));
        }

    pub gathering_skip : get_or a at 0 ≢ c → Gathering words at' k' new
    gathering_skip q =
        record {
          scan = scanning_moved a s.scan l e;
          inserting = inserting_skip s.inserting (λ b. rest_is b ∙ ap (λ (t : Bool). (t && line_names (line_at (drop at a)) b) || lines_name (lines_left a at' k') c b) (ne_eqb (get_or a at 0) c q));
        }

  pub gathering_last : {words : List ℕ} {at k new : ℕ} → Gathering words at k new → count_of a ≤ k → Inserts (names (page_of a) c) (has words₀) (has words) new
  unfolding lines_name
  gathering_last {at = at} {k = k} s l = inserting_last s.inserting (λ b. ap (λ (ls : List Line). lines_name ls c b) (lines_none a at k l))

pub not_so : (t : Bool) → (t ≡ true → ⊥) → t ≡ false
not_so true h = absurd (h refl)
not_so false h = refl

-- what lies past n is not in the set
pub count_past : (n k : ℕ) (s : ℕ → Bool) → n ≤ k → ((c : ℕ) → n ≤ c → s c ≡ false) → count k s ≡ count n s
unfolding sum
count_past n zero s l h = let e : n ≡ 0 = omega arith in ap (λ (i : ℕ). count i s) (sym e)
count_past n (suc k) s l h =
    elim (dec_le n k) [
      | yes m ↦ let e : bit (s k) ≡ 0 = ap bit (h k m) in omega (arith, count_past n k s m h)
      | no m ↦ let e : suc k ≡ n = omega arith in ap (λ (i : ℕ). count i s) e
    ]

-- the conditions named are gathered in an empty set: how many they are
module _ (a : List ℕ) (ok : solvable a ≡ true) (c : ℕ) (blank named : List ℕ) {edges : ℕ} (empty : (k : ℕ) → has blank k ≡ false) (h : Inserts (names (page_of a) c) (has blank) (has named) edges) where
  named_is : (k : ℕ) → k < 512 → has named k ≡ names (page_of a) c k
  named_is k l = h.joins.is k l ∙ ap (λ (t : Bool). t || names (page_of a) c k) (empty k)

  named_count : edges ≡ count (page_of a).conditions (names (page_of a) c)
  named_count =
      let p = solvable_proper a ok in
      let none : count 512 (has blank) ≡ 0 = sum_eq 512 _ (λ b. 0) (λ b k. ap bit (empty b)) ∙ sum_zero 512 in
      let all : count 512 (has named) ≡ count 512 (names (page_of a) c) = sum_eq 512 _ _ (λ b k. ap bit (named_is b k)) in
      let few : count 512 (names (page_of a) c) ≡ count (page_of a).conditions (names (page_of a) c)
      = count_past (page_of a).conditions 512 (names (page_of a) c) p.conditions_most
      (λ b k. false_from_ne_true (names (page_of a) c b) (λ q. let i = names_inside (page_of a) p c b q in omega arith)) in
      omega (arith, h.counted)

  -- and that set is put into what is found and what is new
  pub followed : {found new found' new' : List ℕ} → Absorbed named found new found' new' → Followed (page_of a) c found new found' new' edges
  followed {found} {new} j =
      record {
        found_is = λ k l. j.reached_is k l ∙ ap (λ (t : Bool). has found k || t) (named_is k l);
        new_is = λ k l. j.waiting_is k l ∙ ap (λ (t : Bool). has new k || (t && not (has found k))) (named_is k l);
        edges_is = named_count;
      }
