-- Decimal: numbers in decimal. Of what is put: Putting serves every function that puts, and the crate above; DigitsPut
-- put_decimal; DigitCount decimal_length and id_length. Of what is read: Fronts: bytes at the start of others; DigitsReading
-- read_digits; Spelling and IdSpelt: the bytes of terms, for the crates above too; TermReading rdfs_at and read_term.
pub mod Decimal
pub mod Putting
mod DigitsPut
pub mod IdSpelt
pub mod DigitCount
pub mod Fronts
mod DigitsReading
pub mod Spelling
mod TermReading
