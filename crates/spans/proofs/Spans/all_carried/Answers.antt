-- `Spans::all_carried` meets its contract: of a kind with two ids the second is the last. Assumes nothing.
use Rattle.spans.proofs.Decided.{decides_as}
use Rattle.spans.proofs.Carrying.{each_carries, carries_each}
use Rattle.spans.proofs.Spans.all_carried.Goals as goal

pub carries_over-requires : goal.carries_over-requires
carries_over-requires c =
    record {
      kinds = record {
        kind = c.requires.kinds.0.kind;
        upper = c.requires.kinds.0;
        lower = c.requires.kinds.1;
      };
    }

pub returns : goal.returns
returns c =
    record {
      answer = decides_as c.carries_over.result _ _ (each_carries c.args.self.now.indexed.words _ _ c.requires.kinds.0)
          (carries_each c.args.self.now.indexed.words _ _ c.requires.kinds.0) c.carries_over.ensures.answer;
    }
