-- What an F or R line adds to the body of its head, at one end. Assumes nothing.
use mathlib.Core.Path.{◌≡◌, refl}
use mathlib.Core.Bool.{true}
use mathlib.Core.List.{List, map}
use Prim.Native.Nat.{ℕ, ◌+◌, ◌-◌, ◌≤◌}
use lib.ListN.{get_or, take, drop}
use borrow.Author.Tests.{eq-eqb}
use Rattle.fixpoint.specs.Interval.{Interval}
use Rattle.semantics.specs.Area.{literal_of, top_of, conditions_of, used_of}
use Rattle.semantics.specs.Body.{rule_value}
use Rattle.semantics.specs.Grade.{End, lower, upper}
use Rattle.page.specs.Places.{LineOf}
use Rattle.page.proofs.Scan.{line_at_lem, fact_kind_lem, rule_kind_lem}
use Rattle.page.proofs.Entries.{fact_in}
use Rattle.page.proofs.LineNumbers.{entry_at}
use Rattle.value.specs.Table.{end_of}
use Rattle.value.specs.LineEnds.{RuleEnd, LineEnd}
use Rattle.page.specs.Solvable.{solvable}

module _ (a : List ℕ) (ok : solvable a ≡ true) {at : ℕ} (s : LineOf a (get_or a at 0) at) (values : List ℕ) where
  abbrev held : Interval
  held = record { low = get_or a (at + 2) 0; high = get_or a (at + 3) 0 }

  held_in : (e : End) → get_or a (at + 1) 0 ≡ 0 → end_of e held ≤ top_of a
  held_in e k = let h = entry_at a ok s in let v = fact_in (top_of a) (conditions_of a) (used_of a - at) a at h.fits h.tests k in go e v.0 v.1
    where
      go : (e : End) → get_or a (at + 2) 0 ≤ top_of a → get_or a (at + 3) 0 ≤ top_of a → end_of e held ≤ top_of a
      go lower l h = l
      go upper l h = h

  pub line_fact : (e : End) → get_or a (at + 1) 0 ≡ 0 → LineEnd e a values at (end_of e held)
  line_fact e k = record { grade = held_in e k; is = λ I t. (held, rw (line_at_lem a at, fact_kind_lem _ k, eq-eqb (get_or a at 0) (get_or a at 0) refl), refl) }

  pub line_rule : (e : End) {r : ℕ} → 1 ≤ get_or a (at + 1) 0 → RuleEnd e a values at r → LineEnd e a values at r
  line_rule e {r} l v =
      let o = rule_kind_lem (get_or a (at + 1) 0) l s.body in
      record {
        grade = v.grade;
        is = λ I t. (
          rule_value (top_of a) I (get_or a (at + 2) 0) o.0 (map literal_of (take (get_or a (at + 3) 0) (drop (at + 4) a))),
          rw (line_at_lem a at, o.1, eq-eqb (get_or a at 0) (get_or a at 0) refl),
          v.is I t o.0 o.1,
        );
      }
