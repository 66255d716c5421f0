-- Single host calls one after another, one for each ticket, each on the image that those before left; with
-- anyone's tickets, or with operators'.
use Rattle.std.specs.Prelude.{ℕ, ◌+◌, ◌*◌, ◌≤◌, ◌≡◌, Bool, cond, List, [], ◌∷◌, map, eqb, length, take}
use Rattle.rdfs.specs.Numbers.{product}
use Rattle.contents.specs.ImageForm.{form, TenEntries, largest_fact, first_body}
use Rattle.reading.specs.ReadPromise.{read_answer, read_words}
use Rattle.exchange.specs.ToText.{room}
use Rattle.packing.specs.Packed.{answer_in, length_in}
use Rattle.host_list.specs.HostList.{ticket_count, ran}
use Rattle.host_ticket.specs.HostTicket.{HostPromiseAs}

-- A call: the output that it is lent, the number that it answers, the bytes that it leaves in the output.
pub record HostCall : Type 0 where
  pub output : List ℕ
  pub number : ℕ
  pub left : List ℕ

-- It does as `vimelosa_apply`, or `vimelosa_apply_operator`, promises, with room for the longest image.
pub record Called (operator : Bool) (image ticket : List ℕ) (call : HostCall) : Type 0 where
  pub promise : HostPromiseAs operator image ticket call.output call.number call.left
  pub has_room : first_body form + largest_fact form * product.most ≤ length call.output

-- The image for the next call: what it put out if it is accepted, else the same as before.
abbrev pub image_after : List ℕ → HostCall → List ℕ
image_after image call =
    cond (eqb (answer_in call.number) 0) (take (length_in call.number) call.left) image

-- A call for each ticket.
abbrev pub CalledEach : (operator : Bool) → List ℕ → List (List ℕ) → List HostCall → Type 0
CalledEach operator image [] [] = Unit {0}
CalledEach operator image [] (call ∷ calls) = ⊥
CalledEach operator image (ticket ∷ tickets) [] = ⊥
CalledEach operator image (ticket ∷ tickets) (call ∷ calls) =
    Called operator image ticket call × CalledEach operator (image_after image call) tickets calls

-- The image after the last of them.
abbrev pub image_after_all : List ℕ → List HostCall → List ℕ
image_after_all image [] = image
image_after_all image (call ∷ calls) = image_after_all (image_after image call) calls

-- Such calls have answered the numbers told; the last image is read as the words that the register leaves,
-- and it is the image put out unless the first has ten entries.
pub record AsSingleCalls (operator : Bool) (image tickets : List ℕ) (number : ℕ) (told left : List ℕ)
    (calls : List HostCall) : Type 0 where
  pub numbers : map (λ call. answer_in call.number) calls ≡ take (ticket_count tickets) told
  pub last_read : read_answer room (image_after_all image calls) ≡ 0
  pub last_words : read_words room (image_after_all image calls) ≡ (ran operator image tickets).table
  pub last_image : (TenEntries image → ⊥) → image_after_all image calls ≡ take (length_in number) left
