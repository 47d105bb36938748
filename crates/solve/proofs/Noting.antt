-- The scan that notes the conditions of the Q lines. Assumes nothing.
use mathlib.Core.Path.{◌≡◌, refl, sym, ◌∙◌, ap}
use mathlib.Core.Logic.{◌≢◌}
use mathlib.Core.Bool.{true}
use mathlib.Core.List.{List, [], ◌∷◌, ◌++◌, append-nil, append_assoc}
use Prim.Native.Nat.{ℕ, zero, suc, ◌+◌, ◌-◌, ◌≤◌, ◌<◌}
use native.Mathlib.Numerals.{add-one}
use native.Mathlib.Omega.{arith}
use lib.ListN.{length, get_or, set, take, drop, length-append, length-set}
use lib.Seq.{take-suc, get_or-set_same}
use Rattle.semantics.specs.Area.{page_of, top_of, conditions_of, count_of, used_of, every, line_tests, line_at, first_line}
use Rattle.semantics.specs.Output.{queries_of}
use Rattle.semantics.specs.Page.{Line}
use Rattle.page.specs.Lines.{Next, Scanning}
use Rattle.page.specs.Solvable.{solvable}
use Rattle.page.proofs.Head.{head_of}
use Rattle.page.proofs.Scanning.{lines_left, scanning_first, lines_first, lines_moved, scanning_moved, lines_none}
use Rattle.solve.specs.Figures.{conditions_asked, asked_by, Noted, NotedAll}
use Rattle.solve.proofs.Queries.{a_query, no_query, asked_append, asked_most}

-- what stands before a place that is stored to stays
take_set : (l : List ℕ) (k x : ℕ) → take k (set l k x) ≡ take k l
take_set [] zero x = refl
take_set [] (suc k) x = refl
take_set (y ∷ l) zero x = refl
take_set (y ∷ l) (suc k) x = ap (λ (t : List ℕ). y ∷ t) (take_set l k x)

-- one line
module _ (a queries : List ℕ) (line k : ℕ) where
  pub noted_none : every (line_tests (top_of a) (conditions_of a) (used_of a - line) (drop line a)) ≡ true → get_or a (line + 1) 0 ≢ 6 → Noted a line queries k queries k
  unfolding conditions_asked
  noted_none t n =
      let e = no_query a line t n in
      record { size = refl; more = rw e (omega arith); front = rw e (sym (append-nil (take k queries))) }

  pub noted_one : get_or a (line + 1) 0 ≡ 6 → k < length queries → Noted a line queries k (set queries k (get_or a line 0)) (k + 1)
  unfolding conditions_asked
  noted_one e l =
      let c : ℕ = get_or a line 0 in
      let q = a_query a line e in
      record {
        size = length-set queries k c;
        more = rw q (omega arith);
        front = rw q
            (ap (λ (j : ℕ). take j (set queries k c)) (add-one k) ∙ take-suc (set queries k c) k 0 (omega (arith, length-set queries k c))
            ∙ rw (take_set queries k c, get_or-set_same queries k c 0 l));
      }

-- The scan stands at `line`, behind `passed` lines, whose conditions are noted.
pub record Noting (a : List ℕ) (line passed : ℕ) (queries : List ℕ) (k : ℕ) : Type 0 where
  pub scan : Scanning a line passed
  pub lines : List Line
  pub size : length lines ≡ passed
  pub whole : lines ++ lines_left a line passed ≡ (page_of a).lines
  pub width : length queries ≡ 1536
  pub noted : k ≡ length (asked_by lines)
  pub front : take k queries ≡ asked_by lines

pub noting_first : (a queries : List ℕ) → solvable a ≡ true → length queries ≡ 1536 → {line passed : ℕ} → line ≡ first_line a → passed ≡ 0 → Noting a line passed queries 0
unfolding queries_of conditions_asked
noting_first a queries e w q z =
    rw (q, z) (record { scan = scanning_first a e; lines = []; size = refl; whole = lines_first a; width = w; noted = refl; front = refl })

module _ (a : List ℕ) {line passed : ℕ} {queries : List ℕ} {k : ℕ} (p : Noting a line passed queries k) where
  pub noting_few : k ≤ passed
  noting_few = omega (arith, p.noted, asked_most p.lines, p.size)

  pub noting_next : passed < count_of a → {queries' : List ℕ} {k' line' passed' : ℕ} → Noted a line queries k queries' k' → Next a line passed line' passed' → Noting a line' passed' queries' k'
  noting_next l {queries'} {k'} {line'} {passed'} h m =
      let x = line_at (drop line a) in
      let e = asked_append p.lines (x ∷ []) in
      record {
        scan = scanning_moved a p.scan l m;
        lines = p.lines ++ (x ∷ []);
        size = length-append p.lines (x ∷ []) ∙ omega (arith, p.size, m.count);
        whole = append_assoc p.lines (x ∷ []) (lines_left a line' passed') ∙ ap (λ (ls : List Line). p.lines ++ ls) (sym (lines_moved a p.scan l m)) ∙ p.whole;
        width = h.size ∙ p.width;
        noted = rw e (omega (arith, h.more, p.noted, length-append (asked_by p.lines) (asked_by (x ∷ []))));
        front = rw e (h.front ∙ ap (λ (t : List ℕ). t ++ asked_by (x ∷ [])) p.front);
      }

  pub noting_last : solvable a ≡ true → count_of a ≤ passed → NotedAll a queries k
  noting_last ok l =
      let e : p.lines ≡ (page_of a).lines = sym (append-nil p.lines) ∙ ap (λ (ls : List Line). p.lines ++ ls) (sym (lines_none a line passed l)) ∙ p.whole in
      record { size = p.width; within = omega (arith, noting_few, p.scan.in_count, (head_of a ok).count); front = p.front ∙ ap asked_by e }
