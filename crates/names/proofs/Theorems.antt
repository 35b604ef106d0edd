pub mod NamesOfASet
