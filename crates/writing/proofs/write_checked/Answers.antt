-- `write_checked`: 13, or the contents and the bodies are stored. Assumes nothing.
use native.Mathlib.Omega.{arith}
use mathlib.Core.Path.{refl, ap, subst, ◌∙◌}
use mathlib.Core.List.{List, ◌++◌}
use Prim.Native.Nat.{ℕ, ◌≤◌, ◌<◌}
use lib.Dec.{lit<}
use lib.ListN.{length}
use Rattle.rdfs.specs.Words.{filled}
use Rattle.contents.proofs.Product.{complete}
use Rattle.writing.specs.WritePromise.{table_image}
use Rattle.writing.proofs.EndsLaws.{ends_own}
use Rattle.writing.proofs.Measuring.{image_whole}
use Rattle.writing.proofs.WriteCall.{
  table_writing,
  table_ready,
  table_length,
  write_short,
  write_done,
  stored_first,
  stored_after,
}
use Rattle.writing.proofs.write_checked.Goals as goal

pub find_ends-requires-clause-table : goal.find_ends-requires-clause-table
find_ends-requires-clause-table c = table_writing c.requires.table c.count_facts-count.result c.count_facts-count.ensures.answer

pub find_ends-requires-clause-room : goal.find_ends-requires-clause-room
find_ends-requires-clause-room c = lit< tt

pub image_length-length-requires : goal.image_length-length-requires
image_length-length-requires c =
    record { ends = table_ready c.requires.table c.count_facts-count.ensures.answer c.find_ends.ensures.ends }

pub returns-then-output-length : goal.returns-then-output-length
returns-then-output-length c =
    record {
      promise = let size = table_length c.requires.table c.count_facts-count.ensures.answer c.find_ends.ensures.ends
          c.image_length-length.ensures.answer in
          write_short c.args.table.now c.args.output.now c.requires.table
          (subst (λ m. length c.args.output.now < m) size c.if-output-length.true);
    }

pub put_contents-requires : goal.put_contents-requires
put_contents-requires c =
    let writing = table_writing c.requires.table c.count_facts-count.result c.count_facts-count.ensures.answer in
    let size = table_length c.requires.table c.count_facts-count.ensures.answer c.find_ends.ensures.ends
    c.image_length-length.ensures.answer in record {
      ends = table_ready c.requires.table c.count_facts-count.ensures.answer c.find_ends.ensures.ends;
      room = omega (
        arith,
        size,
        c.if-output-length.false,
        image_whole complete c.args.table.now c.count_facts-count.result writing.writable,
      );
    }

pub put_bodies-requires : goal.put_bodies-requires
put_bodies-requires c =
    record {
      bodies = let writing = table_writing c.requires.table c.count_facts-count.result c.count_facts-count.ensures.answer in
          let size = table_length c.requires.table c.count_facts-count.ensures.answer c.find_ends.ensures.ends
          c.image_length-length.ensures.answer in
          record {
            writing = table_writing c.requires.table (length (filled c.args.table.now)) refl;
            found = ends_own c.count_facts-count.ensures.answer c.find_ends.ensures.ends;
            contents = stored_first writing c.find_ends.ensures.ends c.args.output.now _
                c.put_contents.ensures.bytes;
            room = omega (arith, size, c.if-output-length.false, c.put_contents.auto);
          };
    }

pub overflow_cast-result : goal.overflow_cast-result
overflow_cast-result c =
    let ready = table_ready c.requires.table c.count_facts-count.ensures.answer c.find_ends.ensures.ends in
    omega (arith, c.image_length-length.ensures.answer, ready.long)

pub returns : goal.returns
returns c =
    record {
      promise = let t : List ℕ = c.args.table.now in
          let out : List ℕ = c.args.output.now in
          let writing = table_writing c.requires.table c.count_facts-count.result c.count_facts-count.ensures.answer in
          let size = table_length c.requires.table c.count_facts-count.ensures.answer c.find_ends.ensures.ends
          c.image_length-length.ensures.answer in
          write_done t out c.requires.table (subst (λ m. m ≤ length out) size c.if-output-length.false)
          c.image_length-length.result size _ (c.put_bodies.ensures.bytes ∙ ap (λ m. table_image t ++ m)
          (stored_after writing c.find_ends.ensures.ends out _ c.put_contents.ensures.bytes));
    }
