-- LinePut: for put_line. Printing: for put_lines. Chunk: for run_tickets and run_program. WholeInput: for run_program. Going:
-- for run_chunk and run_input.
pub mod LinePut
pub mod Printing
pub mod Chunk
pub mod WholeInput
pub mod Going
