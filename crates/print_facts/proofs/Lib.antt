-- Gathering: for put_lines. Read: for put_facts and put_read.
pub mod Gathering
pub mod Read
