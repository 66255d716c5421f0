-- LinePut: for put_line. LineLength: for line_length, and the crates above. FactTermsOf: the functions on a fact's word.
-- TermParts: the kind and the ids that three terms tell. FactReading: for fact_of. LineLaws: lines inside the profile, for the
-- crates above. LineReading: for read_line.
mod LinePut
pub mod LineLength
pub mod FactTermsOf
pub mod TermParts
pub mod FactReading
pub mod LineLaws
pub mod LineReading
