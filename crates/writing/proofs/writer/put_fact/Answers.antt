-- `writer::put_fact`: one, two or three ids. Assumes nothing.
use native.Mathlib.Omega.{arith}
use Rattle.writing.proofs.PutFact.{
  first_small,
  second_small,
  third_small,
  one_room,
  two_room,
  three_room,
  put_one,
  put_two,
  put_three,
}
use Rattle.writing.proofs.writer.put_fact.Goals as goal

pub put_bytes-requires-clause-room : goal.put_bytes-requires-clause-room
put_bytes-requires-clause-room c = one_room c.requires.fact

pub put_bytes-requires-clause-small : goal.put_bytes-requires-clause-small
put_bytes-requires-clause-small c = omega (arith, c.first_of-a.ensures.answer, first_small c.requires.fact)

pub overflow_add-second : goal.overflow_add-second
overflow_add-second c = omega (arith, one_room c.requires.fact)

pub returns-then-ids-eq1 : goal.returns-then-ids-eq1
returns-then-ids-eq1 c =
    let r = put_one c.requires.fact c.first_of-a.result c.first_of-a.ensures.answer _ c.put_bytes.ensures.bytes
    c.if-ids-eq1.true in record { answer = r.0; bytes = r.1 }

pub put_bytes-requires-2-clause-room : goal.put_bytes-requires-2-clause-room
put_bytes-requires-2-clause-room c = omega (arith, two_room c.requires.fact c.if-ids-eq1.false, c.put_bytes.auto.output)

pub put_bytes-requires-2-clause-small : goal.put_bytes-requires-2-clause-small
put_bytes-requires-2-clause-small c = omega (arith, c.second_of-b.ensures.answer, second_small c.requires.fact)

pub overflow_add-third : goal.overflow_add-third
overflow_add-third c = omega (arith, two_room c.requires.fact c.if-ids-eq1.false)

pub returns-then-ids-eq2 : goal.returns-then-ids-eq2
returns-then-ids-eq2 c =
    let r = put_two c.requires.fact c.first_of-a.result c.first_of-a.ensures.answer _ c.put_bytes.ensures.bytes
    c.second_of-b.result c.second_of-b.ensures.answer _ c.put_bytes-2.ensures.bytes
    c.if-ids-eq2.true in record { answer = r.0; bytes = r.1 }

pub put_bytes-requires-3-clause-room : goal.put_bytes-requires-3-clause-room
put_bytes-requires-3-clause-room c = omega (
  arith,
  three_room c.requires.fact c.if-ids-eq1.false c.if-ids-eq2.false,
  c.put_bytes.auto.output,
  c.put_bytes-2.auto.output,
)

pub put_bytes-requires-3-clause-small : goal.put_bytes-requires-3-clause-small
put_bytes-requires-3-clause-small c = omega (arith, c.third_of-c.ensures.answer, third_small c.requires.fact)

pub overflow_add-result : goal.overflow_add-result
overflow_add-result c = omega (arith, three_room c.requires.fact c.if-ids-eq1.false c.if-ids-eq2.false)

pub returns : goal.returns
returns c =
    let r = put_three c.requires.fact c.first_of-a.result c.first_of-a.ensures.answer _ c.put_bytes.ensures.bytes
    c.second_of-b.result c.second_of-b.ensures.answer _ c.put_bytes-2.ensures.bytes
    c.if-ids-eq1.false c.if-ids-eq2.false c.third_of-c.result c.third_of-c.ensures.answer _
    c.put_bytes-3.ensures.bytes in record { answer = r.0; bytes = r.1 }
