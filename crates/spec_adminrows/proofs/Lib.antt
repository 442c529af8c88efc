mod AdminWorked
