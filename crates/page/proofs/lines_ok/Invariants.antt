-- `lines_ok` answers as `lines_ok` does, and collects the D lines. Behind each entry that passed, the answer is that of the entries still to come
-- (`Checking`), and the set and the lines still to come make up all D lines (`Collecting`); the literals of a rule that are passed are in range.
use Prim.Native.Nat.{ℕ, ◌*◌, ◌<◌}
use lib.ListN.{get_or}
use Rattle.semantics.specs.Area.{top_of, conditions_of, count_of, used_of}
use Rattle.page.proofs.Checking.{Checking}
use Rattle.page.proofs.Defaults.{Collecting}
use Rattle.page.proofs.lines_ok.Given as goal

abbrev pub invariant-loop-code : goal.invariant-loop-code
invariant-loop-code l = (j : ℕ) → j < l.code-index → get_or l.code-items j 0 < 2 * l.n

abbrev pub invariant-loop : goal.invariant-loop
invariant-loop l = Checking l.a (used_of l.a) (count_of l.a) (top_of l.a) (conditions_of l.a) l.at l.counter × Collecting l.a l.at l.counter l.seen.words
