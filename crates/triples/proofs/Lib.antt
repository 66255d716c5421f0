-- TextCases: worked examples. Laws of texts: CutAfter: runs cut after a byte; IdOf: the number that a part names; LineFound: a
-- line read from its bytes; LinesRead: the lines of a text; AllInside: the texts whose lines are all inside the profile. Given,
-- Written, ReadFacts: lines inside the profile and the facts they give, of a table and of a text. WriteAnswer, ReadAnswer: the
-- answers of the calls. TextLines, AnyOrder: texts by their lines. TriplesTheorems: what is proved of texts.
-- TriplesCallTheorems: what is proved of the calls from their contracts.
-- Of writing. Numbered: the numbers of refusals. LiteralFlags: for flag_literals, has_literal and write_checked. WordText: the text
-- of one word, for fact_length and put_fact. TextPut: for text_length and put_text. WriteTriplesCall: for write_checked.
-- Of reading. PutAll: words put into a list. Pending: words stored in a table, for store_word and all that store. Ids: for
-- tells_twice and store_flagged. LineIds: the ids that lines have, for fill_text. LineFlags: for flag_line. LinesLeft: for
-- flag_lines. LinesStored: for store_lines. TextStored: for fill_text. TextPuts, ToldTwice: the words of the facts that a text
-- gives, and ids told of twice, for TextFilled. TextFilled: for fill_text. ReadTriplesCall: for read_through and read_triples,
-- and for the crate above.
-- WriteTriplesTied, ReadTriplesTied: the contracts in the source are the promises.
mod TextCases
pub mod CutAfter
pub mod IdOf
pub mod LineFound
pub mod LinesRead
pub mod AllInside
pub mod Given
pub mod Written
pub mod ReadFacts
pub mod WriteAnswer
pub mod ReadAnswer
pub mod TextLines
pub mod AnyOrder
pub mod TriplesTheorems
pub mod TriplesCallTheorems
mod LiteralFlags
mod WordText
mod TextPut
pub mod Numbered
mod WriteTriplesCall
mod WriteTriplesTied
mod PutAll
mod Pending
mod Ids
mod LineIds
mod LineFlags
mod LinesLeft
mod LinesStored
mod TextStored
mod TextPuts
mod ToldTwice
mod TextFilled
pub mod ReadTriplesCall
mod ReadTriplesTied
