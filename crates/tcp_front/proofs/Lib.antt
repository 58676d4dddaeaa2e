mod Sent
mod Rows
mod JoinedRows
mod Scanned
mod Adding
mod Fitting
mod Taken
mod Ends
