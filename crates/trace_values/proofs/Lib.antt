pub mod RowLaws
mod Firsts
mod SumLaws
mod Searches
mod WriteLaws
mod RisingLaws
mod TouchLaws
mod Unnamed
mod Seeing
mod ElementLaws
mod ShownElements
mod Keeping
