-- `writer::count_of`: the difference of two ends. Assumes nothing.
use Rattle.writing.proofs.writer.count_of.Goals as goal

pub overflow_sub-result-2 : goal.overflow_sub-result-2
overflow_sub-result-2 c = c.requires.order
