-- Bytes put over lent ones, piece after piece. Assumes nothing.
use Prim.Native.Nat.{ℕ, ◌+◌, ◌<◌}
use mathlib.Core.Path.{◌≡◌, refl, sym, ap, subst, ◌∙◌}
use mathlib.Core.List.{List, [], ◌∷◌, ◌++◌}
use native.Mathlib.Omega.{arith}
use native.Mathlib.Numerals.{add-one}
use lib.ListN.{length, set, take, drop, length-append, take-append-drop}
use lib.Seq.{set_split}
use Rattle.table.specs.Overlay.{over}
use Rattle.table.proofs.Overlaid.{over_length, over_more}
use Rattle.terms.specs.Putting.{Room, Puts}

-- Nothing put; one byte put.
pub puts_none : (out : List ℕ) (at : ℕ) → Puts out at [] out at
puts_none out at =
    let same : at + 0 ≡ at = omega arith in
    record { bytes_are = sym (ap (λ n. take at out ++ drop n out) same ∙ take-append-drop at out); end = sym same }

pub puts_byte : (out : List ℕ) (at byte : ℕ) → at < length out → Puts out at (byte ∷ []) (set out at byte) (at + 1)
puts_byte out at byte h = record {
  bytes_are = set_split out at byte h ∙ ap (λ n. take at out ++ (byte ∷ drop n out)) (sym (add-one at));
  end = refl;
}

-- The same under another spelling of the bytes.
pub puts_same : {out after : List ℕ} {at next : ℕ} {a b : List ℕ} → a ≡ b → Puts out at a after next → Puts out at b after next
puts_same {out} {after} {at} {next} e p = subst (λ l. Puts out at l after next) e p

pub room_same : (out : List ℕ) (at : ℕ) {a b : List ℕ} → a ≡ b → Room out at a → Room out at b
room_same out at e h = subst (Room out at) e h

pub room_first : (out : List ℕ) (at : ℕ) (a b : List ℕ) → Room out at (a ++ b) → Room out at a
room_first out at a b h = omega (arith, h, length-append a b)

pub puts_length : {out mid : List ℕ} {at next : ℕ} (a : List ℕ) → Puts out at a mid next → Room out at a
    → length mid ≡ length out
puts_length {out} {at = at} a p room = ap length p.bytes_are ∙ over_length out at a room

-- A piece is put, and there is room for another behind it; that other is put too.
module _ {out mid : List ℕ} {at next : ℕ} (a b : List ℕ) (room : Room out at (a ++ b)) (p : Puts out at a mid next) where
  first : Room out at a
  first = room_first out at a b room

  pub room_behind : Room mid next b
  room_behind = omega (arith, room, length-append a b, puts_length a p first, p.end)

  pub puts_behind : {after : List ℕ} {last : ℕ} → Puts mid next b after last → Puts out at (a ++ b) after last
  puts_behind q = record {
    bytes_are = q.bytes_are ∙ (ap (λ l. over l next b) p.bytes_are ∙ (ap (λ n. over (over out at a) n b) p.end
        ∙ over_more out at a first b));
    end = q.end ∙ omega (arith, p.end, length-append a b);
  }
