-- The n bytes of a read stand behind the `done` that were there.
use Rattle.std.proofs.Common.{◌≡◌, ℕ, ◌+◌, ◌-◌, ◌≤◌, List, ◌++◌, rules, length, take, sym, ap, ap₂, ◌∙◌, subst, le_refl, drop_at, length-take-le}
use Rattle.std.proofs.lemmas.Slice.{take-put_mid_below}
use Rattle.std.specs.Io.KnownBytes.{Consumes}
use Rattle.std.proofs.KnownBytes.{Consumes-trans}
use Rattle.std.proofs.Math.Seq.{take-add, take-append-le}
use borrow.Rule.Slice.PartMut.{put_mid, post_of}
use Rattle.fill.proofs.read_full.Goals as goal

filled : (done room n : ℕ) (xs ys : List ℕ) → done ≤ length xs → n ≤ length ys → take (done + n) (put_mid done room xs ys) ≡ take done xs ++ take n ys
filled done room n xs ys within fits =
    take-add done n (put_mid done room xs ys)
    ∙ ap₂ (λ s t. s ++ t) (take-put_mid_below done room xs ys done (le_refl done) within)
    (ap (take n) (drop_at (take done xs) (ys ++ post_of done room xs) done (length-take-le done xs within)) ∙ take-append-le n ys (post_of done room xs) fits)

pub loop-done-preserved : goal.loop-done-preserved
loop-done-preserved g c =
    let part = c.read.new.buf in
    let step = filled c.loop-done.done (length c.loop-done.buffer - c.loop-done.done) c.in-Ok.n c.loop-done.buffer part c.loop-done.invariant.1 c.in-Ok.ensures.bound.0 in
    (search rules, search rules, subst (Consumes _ _) (sym step) (Consumes-trans _ _ _ _ _ c.loop-done.invariant.2 c.in-Ok.ensures.bytes.0))
