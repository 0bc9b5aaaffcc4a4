-- Document 01 as definitions, in its order: all that a contract cites, and last the promises.
pub mod Basic
-- Plate, spread and peak
pub mod Psf
-- Table and squared error
pub mod Error
pub mod Setting
-- Locked cells (02, C-12)
pub mod Lock
-- One change
pub mod Ledger
pub mod Change
-- Starts
pub mod Screen
-- Scans and settling
pub mod Partners
pub mod Scan
-- Refused because of the input, and because of the state; the refusals as the code names them
pub mod Reason
pub mod Refusal
pub mod State
-- Lists of calls: the plain plate, the calls, and lists of them
pub mod Reference
pub mod Calls
pub mod Lists
-- Sheet and program
pub mod Text
pub mod Sheet
pub mod SheetRefusal
pub mod Format
pub mod SheetCalls
pub mod Program
-- the filed sheet, which the program prints, and its check
pub mod Grammar
pub mod Filed
pub mod FiledCalls
pub mod FiledExamples
-- Pictures: plates and shading as Netpbm files (02, C-11)
pub mod Netpbm
pub mod PictureHeader
pub mod PictureCalls
pub mod PictureExamples
-- Relief as gray PFM (02, C-16)
pub mod Pfm
pub mod PfmCalls
pub mod PfmExamples
-- Tone balance (02, C-15)
pub mod Balance
-- the C interface
pub mod Interface
-- Examples
pub mod Examples
-- what is promised
pub mod ProgramPromises
pub mod PicturePromises
pub mod PfmPromises
pub mod BalancePromises
pub mod FiledPromises
pub mod Promises
