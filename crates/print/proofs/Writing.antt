-- Items written one after the other. Assumes nothing.
use mathlib.Core.Path.{◌≡◌, refl, sym, ◌∙◌, ap}
use mathlib.Core.List.{List, [], ◌∷◌, ◌++◌}
use Prim.Native.Nat.{ℕ, suc, ◌+◌, ◌≤◌, ◌<◌}
use native.Mathlib.Nat.{add-zero}
use native.Mathlib.Numerals.{add-one}
use native.Mathlib.Omega.{arith}
use lib.ListN.{length, set, get_or, take, drop, length-append}
use lib.Seq.{sets, sets-eq, length-sets, take_at, take-suc, take-length}
use Rattle.print.specs.Wrote.{Wrote}
use Rattle.print.specs.Texts.{Room, Puts}
use Rattle.print.specs.declared.Text.{Text}

-- a run of stores behind a run
sets_append : {X : Type 0} (l : List X) (i : ℕ) (us vs : List X) → sets (sets l i us) (i + length us) vs ≡ sets l i (us ++ vs)
sets_append l i [] vs = rw add-zero
sets_append l i (u ∷ us) vs =
    let e : i + suc (length us) ≡ suc i + length us = omega arith in
    rw e (sets_append (set l i u) (suc i) us vs)

pub wrote_none : {X : Type 0} (l : List X) (at : ℕ) → at ≤ length l → Wrote l at [] l at
wrote_none l at h = record { is = refl; behind = omega arith; room = h }

-- two writes, one behind the other
pub wrote_then : {X : Type 0} {l l₁ l₂ us vs : List X} {at m r : ℕ} → Wrote l at us l₁ m → Wrote l₁ m vs l₂ r → Wrote l at (us ++ vs) l₂ r
wrote_then {X} {l} {l₁} {l₂} {us} {vs} {at} {m} {r} p q =
    record {
      is = q.is ∙ rw (p.is, p.behind) (sets_append l at us vs);
      behind = omega (arith, p.behind, q.behind, length-append us vs);
      room = omega (arith, q.room, ap length p.is, length-sets l at us);
    }

-- the same items
pub wrote_as : {X : Type 0} {l us vs l' : List X} {at r : ℕ} → us ≡ vs → Wrote l at us l' r → Wrote l at vs l' r
wrote_as {X} {l} {us} {vs} {l'} {at} {r} e w = rw e at w

-- one item more of a list
pub wrote_more : {X : Type 0} {l l₁ : List X} (items : List X) {at : ℕ} (i : ℕ) (x : X) → x ≡ get_or items i x → Wrote l at (take i items) l₁ (at + i)
    → at + i < length l → i < length items → Wrote l at (take (i + 1) items) (set l₁ (at + i) x) (at + (i + 1))
wrote_more {X} {l} {l₁} items {at} i x is w r h =
    let e : length l₁ ≡ length l = ap length w.is ∙ length-sets l at (take i items) in
    let whole : take i items ++ x ∷ [] ≡ take (suc i) items = ap (λ (y : X). take i items ++ y ∷ []) is ∙ sym (take-suc items i x h) in
    rw (add-one i) (wrote_as whole (wrote_then w (record { is = refl; behind = omega arith; room = omega arith })))

pub wrote_all : {X : Type 0} {l l₁ : List X} (items : List X) {at : ℕ} (i : ℕ) → i ≡ length items → Wrote l at (take i items) l₁ (at + i) → Wrote l at items l₁ (at + length items)
wrote_all {X} {l} {l₁} items {at} i e w = rw (e, take-length items) at w

-- a write that fills the front
pub wrote_front : {X : Type 0} {l us l' : List X} {r : ℕ} → Wrote l 0 us l' r → l' ≡ us ++ drop (length us) l
wrote_front {X} {l} {us} {l'} {r} w = w.is ∙ sets-eq us l 0 (omega (arith, w.behind, w.room)) ∙ (let e : 0 + length us ≡ length us = omega arith in rw e)

-- texts: two writes, one behind the other; and the room behind a write
pub puts_then : {t t₁ t₂ : Text} {us vs : List ℕ} → Puts t us t₁ → Puts t₁ vs t₂ → Puts t (us ++ vs) t₂
puts_then p q = record { same = q.same ∙ p.same; wrote = wrote_then p.wrote q.wrote }

pub puts_room : {t t' : Text} {us : List ℕ} (n : ℕ) → Puts t us t' → Room t (length us + n) → Room t' n
puts_room {t} {t'} {us} n p h = omega (arith, p.wrote.behind, ap length p.wrote.is, length-sets t.out.now t.at us)

-- what is written lies in the slice; from the beginning of it on, it is what the slice begins with
pub puts_fits : {t t' : Text} {us : List ℕ} → Puts t us t' → Room t' 0
puts_fits {t} {t'} {us} p = omega (arith, p.wrote.room, ap length p.wrote.is, length-sets t.out.now t.at us)

pub puts_front : {t t' : Text} {us : List ℕ} → t.at ≡ 0 → Puts t us t' → take t'.at t'.out.now ≡ us
puts_front {t} {t'} {us} z p =
    let w : Wrote t.out.now 0 us t'.out.now t'.at = rw z at p.wrote in
    rw (wrote_front w) (take_at us (drop (length us) t.out.now) t'.at (omega (arith, w.behind)))

-- the same bytes
pub puts_as : {t t' : Text} {us vs : List ℕ} → us ≡ vs → Puts t us t' → Puts t vs t'
puts_as e p = record { same = p.same; wrote = wrote_as e p.wrote }

-- nothing is written
pub puts_none : (t : Text) → Room t 0 → Puts t [] t
puts_none t h = record { same = refl; wrote = wrote_none t.out.now t.at (omega arith) }
