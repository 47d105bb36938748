-- A pass over the lines that puts the heads of those that name one of a set into it. Assumes nothing.
use mathlib.Core.Path.{◌≡◌, sym, ◌∙◌, ap, subst}
use mathlib.Core.Logic.{⊎_elim}
use mathlib.Core.Bool.{Bool, true, ◌||◌, or-true, or_assoc, or_comm}
use mathlib.Core.List.{List}
use Prim.Native.Nat.{ℕ, ◌+◌, ◌≤◌, ◌<◌}
use native.Mathlib.Omega.{arith}
use lib.Dec.{eqb}
use lib.ListN.{get_or, drop}
use borrow.Author.Tests.{eqb-true}
use Rattle.fixpoint.specs.Sum.{count}
use Rattle.semantics.specs.Area.{first_line, page_of, line_at, count_of}
use Rattle.semantics.specs.Followers.{Follows}
use Rattle.semantics.specs.Page.{Line, names}
use Rattle.semantics.proofs.Followers.{follows_directly, follows_through}
use Rattle.semantics.proofs.Table.{or_cases}
use Rattle.page.specs.Lines.{Next, line_names, Scanning}
use Rattle.page.proofs.Scanning.{scanning_first, scanning_moved}
use Rattle.bits.specs.Words.{has, Inserted}
use Rattle.layers.proofs.Behind.{by_names, Behind, behind_first_lem, behind_next, behind_last, here_related}
use Rattle.reach.proofs.Inserting.{inserts_one, size_most}
use Rattle.reach.proofs.Visiting.{scanned_head}
use Rattle.followers.specs.Rows.{meets, Covers, LineFollowed, stays, enters, Seeks, PageFollowed}
use Rattle.followers.proofs.Meeting.{meets_one, meets_found}
use Rattle.page.specs.Solvable.{solvable}
use Rattle.page.proofs.Solvable.{solvable_proper}

or_swap : (x y z : Bool) → ((x || y) || z) ≡ ((x || z) || y)
or_swap x y z = or_assoc x y z ∙ ap (λ (t : Bool). x || t) (or_comm y z) ∙ sym (or_assoc x z y)

-- a condition put into both sets
inserted_covers : (x : ℕ) {seen row seen' row' : List ℕ} → Covers seen row → Inserted x seen seen' → Inserted x row row' → Covers seen' row'
inserted_covers x {seen} {row} v h g =
    record {
      seen_size = h.0;
      row_size = g.0;
      covers = λ k l p.
          h.1 k l
          ∙ ⊎_elim (λ q. rw (v.covers k l q)) (λ q. ap (λ (t : Bool). has seen k || t) q ∙ or-true (has seen k))
          (or_cases (has row k) (eqb k x) (sym (g.1 k l) ∙ p));
    }

pub line_few : {a seen row seen' row' : List ℕ} {at added : ℕ} → LineFollowed a at seen row seen' row' added → added ≤ 1
line_few (stays h) = omega arith
line_few (enters h p q r) = omega arith

-- with none new, x is in the row where it names b and b is seen
abbrev pub Closed : (seen row : List ℕ) (new x b : ℕ) → Type 0
Closed seen row new x b = new ≡ 0 → b < 512 → has seen b ≡ true → has row x ≡ true

-- the pass stands at `at`, behind k lines, with `new` new conditions
module _ (a : List ℕ) (seen₀ row₀ : List ℕ) where
  pub record Passing (seen row : List ℕ) (at k new : ℕ) : Type 0 where
    pub ok : solvable a ≡ true
    pub scan : Scanning a at k
    pub behind : Behind by_names a (Closed seen row new) at k
    pub covers : Covers seen row
    pub seeks : (c : ℕ) → Seeks (page_of a) c seen₀ row₀ → Seeks (page_of a) c seen row
    pub counted : count 512 (has row) ≡ count 512 (has row₀) + new

  -- so far at most 512 are new
  pub passing_few : {seen row : List ℕ} {at k new : ℕ} → Passing seen row at k new → new ≤ 512
  passing_few {row = row} s = omega (arith, s.counted, size_most 512 (has row))

  pub passing_first : solvable a ≡ true → Covers seen₀ row₀ → {at k : ℕ} → (at ≡ first_line a) × (k ≡ 0) → Passing seen₀ row₀ at k 0
  passing_first ok v {at} {k} z =
      record {
        ok = ok;
        scan = rw (z.0, z.1) (scanning_first a ok);
        behind = behind_first_lem by_names a z;
        covers = v;
        seeks = λ c s. s;
        counted = omega arith;
      }

  module _ {at k at' k' : ℕ} (e : Next a at k at' k') (l : k < count_of a) where
    abbrev head : ℕ
    head = get_or a at 0

    abbrev line : Line
    line = line_at (drop at a)

    -- a head that enters follows the condition that is sought for
    entered : {c : ℕ} {seen row : List ℕ} {new : ℕ} → Passing seen row at k new → Seeks (page_of a) c seen row → meets seen (line_names line) ≡ true → Follows (page_of a) head c
    entered {c} {seen} {row} s h q =
        let f = meets_found seen (line_names line) q in
        let b = f.0 in
        let named : names (page_of a) head b ≡ true = here_related by_names a s.scan s.behind l e b f.3 in
        ⊎_elim (λ p. follows_through named (h.only b f.1 p))
        (λ p. follows_directly (subst (λ (d : ℕ). names (page_of a) head d ≡ true) (eqb-true b c p) named))
        (or_cases (has row b) (eqb b c) (sym (h.seen_is b f.1) ∙ f.2))

    pub passing_next : {seen row seen' row' : List ℕ} {new added : ℕ} → Passing seen row at k new → LineFollowed a at seen row seen' row' added → Passing seen' row' at' k' (new + added)
    passing_next {seen} {row} {new = new} s (stays h) =
        record {
          ok = s.ok;
          scan = scanning_moved a s.scan l e;
          behind = behind_next by_names a s.scan s.behind l e (λ x b p z. p (omega arith)) (λ b q z o p. h (meets_one seen (line_names line) b o p q));
          covers = s.covers;
          seeks = s.seeks;
          counted = omega (arith, s.counted);
        }
    passing_next {seen} {row} {seen'} {row'} {new} s (enters away met in-seen in_row) =
        record {
          ok = s.ok;
          scan = scanning_moved a s.scan l e;
          behind = behind_next by_names a s.scan s.behind l e (λ x b p z. absurd (omega arith)) (λ b q z. absurd (omega arith));
          covers = inserted_covers head s.covers in-seen in_row;
          seeks = λ c h.
              let g = s.seeks c h in
              record {
                seen_is = λ x m. in-seen.1 x m ∙ ap (λ (t : Bool). t || eqb x head) (g.seen_is x m) ∙ or_swap (has row x) (eqb x c) (eqb x head) ∙ ap (λ (t : Bool). t || eqb x c) (sym (in_row.1 x m));
                only = λ x m p.
                    ⊎_elim (λ q. g.only x m q) (λ q. subst (λ (d : ℕ). Follows (page_of a) d c) (sym (eqb-true x head q)) (entered s g met))
                    (or_cases (has row x) (eqb x head) (sym (in_row.1 x m) ∙ p));
              };
          counted = omega (arith, s.counted, (inserts_one has row row' head in_row {new = 1} (omega (arith, scanned_head a s.scan l, (solvable_proper a s.ok).conditions_most)) (rw away)).counted);
        }

  pub passing_last : {seen row : List ℕ} {at k new : ℕ} → Passing seen row at k new → count_of a ≤ k → PageFollowed (page_of a) seen₀ row₀ seen row new
  passing_last s l =
      record {
        covers = s.covers;
        seeks = s.seeks;
        counted = s.counted;
        settled = λ e x b o p q. behind_last by_names a s.behind l x b q e o p;
      }
