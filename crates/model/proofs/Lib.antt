-- The laws of the definitions, in the same order, and last the promises that rest on them.
pub mod Basic
-- Plate, spread and peak
pub mod Psf
-- Table and squared error
pub mod Error
pub mod Spread
pub mod Halftone
-- Locked cells
pub mod Lock
-- One change
pub mod Ledger
pub mod Turn
pub mod Change
-- Starts
pub mod Screen
pub mod Start
-- Scans and settling
pub mod Partners
pub mod Scan
pub mod Square
pub mod Trials
pub mod Pairs
pub mod Rest
pub mod Converge
-- Refused because of the input, and because of the state
pub mod Refusal
pub mod State
pub mod Later
-- Lists of calls: the plain plate, the calls, and lists of them
pub mod Reference
pub mod Calls
pub mod Attempts
pub mod Lists
pub mod Demand3
-- Sheet and program
pub mod Text
pub mod Puts
pub mod Rows
pub mod Format
pub mod Agrees
pub mod Parse
pub mod Unseen
pub mod Grammar
pub mod Deciding
pub mod GrammarRefused
pub mod Sheet
pub mod Sections
pub mod Leftmost
pub mod Longest
pub mod Program
pub mod Printed
-- Pictures: plates and shading as Netpbm files
pub mod Glyphs
pub mod Fields
pub mod Numerals
pub mod Header
pub mod WrittenHead
pub mod Tables
pub mod Totals
pub mod Raster
pub mod Pictures
pub mod PictureVerdicts
pub mod PbmReading
pub mod PgmReading
pub mod PictureWriting
pub mod PictureExamples
-- Filed sheets
pub mod FiledText
pub mod FiledReading
pub mod FiledVerdicts
pub mod FiledCheck
pub mod FiledPrinted
pub mod FiledExamples
-- Relief as gray PFM
pub mod Samples
pub mod PfmHeaders
pub mod PfmVerdicts
pub mod PfmExamples
pub mod PfmPromised
-- Tone balance
pub mod Balance
-- the C interface
pub mod Interface
-- Examples
pub mod Examples
-- what is promised
pub mod Main
